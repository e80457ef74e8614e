-- The first place at fault is refused, and where none is nothing is. Assumes nothing.
use Prim.Native.Nat.{◌+◌}
use mathlib.Core.Path.{sym, ◌∙◌}
use native.Mathlib.Omega.{arith}
use Rattle.facts.proofs.Chain.{returned, was-faulty, was-faultless}
use Rattle.facts.proofs.First.{first-hit, left-next, first-clear}
use Rattle.chain.proofs.refuse_first.Goals as goal

pub returns-in_err-refuse_if : goal.returns-in_err-refuse_if
returns-in_err-refuse_if g c = λ test same.
    let low = c.requires.number in
    let here = same (c.loop-i.i + 1) c.fault.result (omega arith) (omega arith) c.fault.ensures in
    let w = was-faulty _ _ _ _ low c.in_err-refuse_if.ensures in
    returned _ c.from_residual.ensures.1 ∙ rw w.1 (first-hit _ test _ _ _ (c.loop-i.invariant test same) low (omega arith) (sym here ∙ w.0))

pub loop-i-preserved : goal.loop-i-preserved
loop-i-preserved g c = λ test same.
    let here = same (c.loop-i.i + 1) c.fault.result (omega arith) (omega arith) c.fault.ensures in
    left-next _ test _ _ (c.loop-i.invariant test same) (omega arith) (sym here ∙ was-faultless _ _ _ _ c.requires.number c.in_ok-refuse_if.ensures)

pub returns : goal.returns
returns g c = λ test same. first-clear _ test _ _ _ (c.loop-i.invariant test same) (omega arith)
