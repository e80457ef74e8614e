-- 13, then 14, or every task's answer. Assumes nothing.
use Rattle.rounds.proofs.Nexts.{Nexts}
use Rattle.rounds.proofs.Judging.{Running}
use Rattle.rounds.proofs.judge_lent.Given as goal

abbrev pub invariant-loop-i : goal.invariant-loop-i
invariant-loop-i l = Running l.l l.starts l.i l.answers × Nexts l.l.core l.l.tasks.begins l.next l.i
