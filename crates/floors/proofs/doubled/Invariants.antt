-- Two jobs of each core's tasks, core by core. Assumes nothing.
use Rattle.floors.specs.Floors.{Doubled}
use Rattle.floors.proofs.doubled.Given as goal

abbrev pub invariant-loop-q : goal.invariant-loop-q
invariant-loop-q l = Doubled l.q l.tasks.begins l.tasks.requests l.out
