-- Two jobs of each task, core by core at the cores' weights. Assumes nothing.
use Rattle.floors.proofs.Weighed.{Weighing}
use Rattle.floors.proofs.with_floor.Given as goal

abbrev pub invariant-loop-q : goal.invariant-loop-q
invariant-loop-q l = Weighing l.weight l.doubled l.q l.sum
