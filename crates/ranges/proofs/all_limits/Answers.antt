-- The table of limits is the rule's list, tested whole. Assumes nothing.
use mathlib.Core.Path.{refl}
use Rattle.rules.specs.Timing.{ranges}
use Rattle.ranges.proofs.all_limits.Goals as goal

pub returns : goal.returns
unfolding ranges
returns c = refl
