-- One piece of a text, as the loop finds it. Assumes nothing.
use native.Mathlib.Omega.{arith}
use borrow.Author.Rules.{rules}
use Rattle.pieces.proofs.Walk.{left-all, left_mark, left_byte}
use Rattle.pieces.proofs.piece.Goals.{then-byte-mark+else-left-eq0, else-byte-mark}
use Rattle.pieces.proofs.piece.Goals as goal

pub loop-i-init : goal.loop-i-init
loop-i-init c = (search rules, left-all _ _ _)

pub loop-i-preserved : goal.loop-i-preserved
loop-i-preserved c =
    let l = c.loop-i in
    elim c.if-byte-mark.branch [
      | then-byte-mark+else-left-eq0 w ↦
          (omega arith, rw (w.left-is, w.start-is) (left_mark _ _ _ _ _ _ l.invariant.1 (omega arith) w.if-byte-mark.true (omega (arith, w.if-left-eq0.false))))
      | else-byte-mark w ↦
          (omega arith, rw (w.left-is, w.start-is) (left_byte _ _ _ _ _ _ l.invariant.1 (omega arith) l.invariant.0 w.if-byte-mark.false))
    ]
