-- `cycles::pre` meets its contract. Assumes nothing.
use mathlib.Core.Path.{refl}
use Rattle.rules.specs.Delays.{pre}
use Rattle.cycles.proofs.pre.Goals as goal

pub returns : goal.returns
unfolding pre
returns c = refl
