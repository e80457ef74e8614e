-- `store_answers` meets its contract. The invariant: each output has room, and the first i answers are in it. Assumes nothing.
use Rattle.stored.proofs.Laid.{Storing}
use Rattle.stored.proofs.store_answers.Given as goal

abbrev pub invariant-loop-i : goal.invariant-loop-i
invariant-loop-i l = Storing l.answers l.i l.initial.bounds l.initial.rounds l.initial.by l.bounds l.rounds l.by
