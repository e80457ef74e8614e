-- Two jobs of each task, core by core at the cores' weights. Assumes nothing.
use Rattle.std.proofs.Common.{rules}
use Rattle.floors.proofs.Weighed.{weighing_none, weighing_next}
use Rattle.floors.proofs.with_floor.Goals as goal

pub loop-q-init : goal.loop-q-init
loop-q-init c = weighing_none

pub loop-q-preserved : goal.loop-q-preserved
loop-q-preserved c = weighing_next c.loop-q.invariant (c.requires.each c.loop-q.q (search rules)) (search rules)
