-- What higher tasks ask for, place by place. Assumes nothing.
use Rattle.std.proofs.Common.{rules}
use Rattle.counts.proofs.Sums.{summed-none, released-next}
use Rattle.counts.proofs.asked_higher.Goals as goal

pub loop-i-init : goal.loop-i-init
loop-i-init c = (summed-none, summed-none)

pub loop-i-preserved : goal.loop-i-preserved
loop-i-preserved c =
    let l = c.loop-i in
    let count = c.up-count.ensures in (
      released-next c.requires.slots (search rules) (search rules) count l.invariant.0 (search rules),
      released-next c.requires.slots_2 (search rules) (search rules) count l.invariant.1 (search rules),
    )
