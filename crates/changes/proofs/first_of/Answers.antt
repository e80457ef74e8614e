-- The first place that has a change gives it. Assumes nothing.
use Prim.Native.Nat.{◌+◌}
use mathlib.Core.Path.{sym, ◌∙◌}
use native.Mathlib.Omega.{arith}
use Rattle.changes.proofs.First.{left-hit, left-next, left-none}
use Rattle.changes.proofs.first_of.Goals as goal

pub returns-then-is_some : goal.returns-then-is_some
returns-then-is_some g c = λ d same.
    left-hit d _ _ (c.loop-i.invariant d same) (same (c.loop-i.i + 1) c.change-found.result (omega arith) (omega arith) c.change-found.ensures) (omega arith) (sym c.is_some.ensures ∙ c.if-is_some.true)

pub loop-i-preserved : goal.loop-i-preserved
loop-i-preserved g c = λ d same.
    left-next d _ _ (c.loop-i.invariant d same) (same (c.loop-i.i + 1) c.change-found.result (omega arith) (omega arith) c.change-found.ensures) (omega arith) (sym c.is_some.ensures ∙ c.if-is_some.false)

pub returns : goal.returns
returns g c = λ d same. left-none d _ _ (c.loop-i.invariant d same) (omega arith)
