-- The tasks after the first i decide. Assumes nothing.
use Rattle.laws.proofs.Every.{Rest}
use Rattle.status.specs.Status.{held}
use Rattle.status.proofs.of_answers.Given as goal

abbrev pub invariant-loop-i : goal.invariant-loop-i
invariant-loop-i l = Rest (held l.answers) l.tasks l.i
