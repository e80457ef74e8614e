-- The loop makes the rounds. Assumes nothing.
use borrow.Author.Rules.{rules}
use mathlib.Core.Path.{refl}
use native.Mathlib.Omega.{arith}
use Rattle.climb.proofs.Rises.{going_first, going_next, last-holds, last-misses, lowered}
use Rattle.climb.proofs.settle.Goals as goal

pub returns-then-next-t-2 : goal.returns-then-next-t-2
returns-then-next-t-2 c = lowered _ _ c.requires refl c.loop-t.invariant c.apply-next.ensures (search rules)

pub returns-then-own-next : goal.returns-then-own-next
returns-then-own-next c =
    last-misses _ _ c.requires refl c.loop-t.invariant c.apply-next.ensures (omega arith) (omega arith)

pub loop-t-preserved : goal.loop-t-preserved
loop-t-preserved c =
    going_next _ _ c.requires refl c.loop-t.invariant c.apply-next.ensures (omega arith) (omega arith) (omega arith)

pub loop-t-init : goal.loop-t-init
loop-t-init c = rw (c.max-t.ensures, c.lowest.ensures) (going_first _ _ c.requires refl)

pub returns-then-next-t : goal.returns-then-next-t
returns-then-next-t c = last-holds _ _ c.requires refl c.loop-t.invariant c.apply-next.ensures (search rules)
