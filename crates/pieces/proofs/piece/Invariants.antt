-- One piece of a text, as the loop finds it. Assumes nothing.
use Prim.Native.Nat.{◌≤◌}
use Rattle.pieces.proofs.Walk.{Left}
use Rattle.pieces.proofs.piece.Given as goal

abbrev pub invariant-loop-i : goal.invariant-loop-i
invariant-loop-i l = (l.start ≤ l.i) × Left l.mark l.s l.k l.left l.start l.i
