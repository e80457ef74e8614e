-- Two jobs of each core's tasks, core by core. Assumes nothing.
use Rattle.std.proofs.Common.{rules}
use Rattle.floors.proofs.Doubling.{doubled_next}
use Rattle.floors.proofs.doubled.Goals as goal

pub loop-q-preserved : goal.loop-q-preserved
loop-q-preserved c = doubled_next (search rules) c.loop-q.invariant (c.requires.each c.loop-q.q (search rules)) c.twice.ensures
