-- What tasks ask for after their first jobs, place by place. Assumes nothing.
use Rattle.std.proofs.Common.{rules}
use Rattle.counts.proofs.Sums.{summed-none, later_next}
use Rattle.counts.proofs.later.Goals as goal

pub loop-i-init : goal.loop-i-init
loop-i-init c = summed-none

pub loop-i-preserved : goal.loop-i-preserved
loop-i-preserved c = later_next c.requires.slots (search rules) (search rules) c.up.ensures c.loop-i.invariant (search rules)
