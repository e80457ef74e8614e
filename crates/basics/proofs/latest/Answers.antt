-- The latest allowed response. Assumes nothing.
use mathlib.Core.Path.{refl}
use Rattle.rules.specs.Tasks.{latest}
use Rattle.basics.proofs.latest.Goals as goal

pub returns : goal.returns
unfolding latest
returns c = refl
