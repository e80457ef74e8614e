-- The refusals before a judgement of one task, in their order. Assumes nothing.
use Prim.Native.Nat.{◌≤◌}
use mathlib.Core.Path.{sym, ◌∙◌}
use native.Mathlib.Omega.{arith}
use borrow.Author.Tests.{not-false}
use Rattle.laws.proofs.Tests.{inside}
use Rattle.rules.specs.Refusals.{asked_fault, late_start, check_start}
use Rattle.facts.proofs.Starts.{judged-sound}
use Rattle.facts.proofs.Chain.{stops_at, goes_on_to, was-allowed, was-faultless}
use Rattle.chain.proofs.Walk.{stays}
use Rattle.admit.proofs.start.Goals.{In_ok-refuse_if}
use Rattle.admit.proofs.start.Goals as goal

-- past refusal 12
is-asked : (c : In_ok-refuse_if) → (1 ≤ c.args.k) × (c.args.k ≤ c.args.t.tasks)
is-asked c =
    let fine = not-false _ (sym c.outside.ensures ∙ was-faultless 12 0 _ _ (omega arith) c.in_ok-refuse_if.ensures) in
    let h = inside 1 c.args.t.tasks c.args.k fine in
    (h.low, h.high)

pub returns-in_err-table : goal.returns-in_err-table
unfolding check_start
returns-in_err-table c = stops_at _ _ _ _ c.from_residual.ensures.1 (stays _ _ _ c.in_err-table.ensures)

pub returns-in_err-refuse_if : goal.returns-in_err-refuse_if
unfolding check_start asked_fault
returns-in_err-refuse_if c =
    stops_at _ _ _ _ c.from_residual-in_err-refuse_if.ensures.1
    (goes_on_to _ _ _ _ c.in_ok-table.ensures (rw c.outside.ensures at c.in_err-refuse_if.ensures))

pub overflow_sub-task : goal.overflow_sub-task
overflow_sub-task c = (is-asked (goal.at.overflow_sub-task c).In_ok-refuse_if).0

pub bounds-t-k : goal.bounds-t-k
bounds-t-k c =
    let k = is-asked (goal.at.bounds-t-k c).In_ok-refuse_if in
    omega (arith, k.0, k.1, (judged-sound c.args.t (was-allowed _ _ (sym c.in_ok-table.ensures)).0).tasks-in.high)

pub returns : goal.returns
unfolding check_start asked_fault late_start
returns c =
    goes_on_to _ _ _ _ (goes_on_to _ _ _ _ c.in_ok-table.ensures (rw c.outside.ensures at c.in_ok-refuse_if.ensures)) (rw c.latest.ensures at c.refuse_if-2.ensures)
