-- The places of every core's tasks. Assumes nothing.
use Rattle.groups.proofs.InTurn.{InTurn}
use Rattle.groups.proofs.grouped.Given as goal

abbrev pub invariant-loop-q : goal.invariant-loop-q
invariant-loop-q l = InTurn l.core l.n l.q l.m l.from l.order
