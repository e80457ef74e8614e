-- The lowest start. Assumes nothing.
use mathlib.Core.Path.{refl}
use Rattle.climb.specs.Run.{lowest_of}
use Rattle.climb.proofs.lowest.Goals as goal

pub returns : goal.returns
unfolding lowest_of
returns c = refl
