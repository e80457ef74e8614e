-- Job from its floor, core by core, and no further than request. Assumes nothing.
use Rattle.job.proofs.Cores.{Added}
use Rattle.job.proofs.reached.Given as goal

abbrev pub invariant-loop-q : goal.invariant-loop-q
invariant-loop-q l = Added l.others l.tasks.begins l.tasks.periods l.tasks.requests l.t l.q l.sum
