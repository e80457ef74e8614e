-- The two sums out of the lanes. Assumes nothing.
use Rattle.lanes.proofs.out_of_lanes.Goals as goal

pub returns : goal.returns
returns c =
    rw (c.added-3.ensures.value, c.added-2.ensures.value, c.added.ensures.value, c.weighed-2.ensures.value, c.weighed.ensures.value, c.added-odd.ensures.value)
