-- 5 to 8 in their order. Assumes nothing.
use mathlib.Core.Path.{sym, ◌∙◌}
use native.Mathlib.Omega.{arith}
use Rattle.rules.specs.Refusals.{board_refusal}
use Rattle.facts.proofs.Chain.{stops_at, goes_on_to, was-faultless}
use Rattle.chain.proofs.Walk.{stays}
use Rattle.checks.proofs.Counts.{counts-inside}
use Rattle.checks.proofs.board_refusal.Goals as goal

pub returns-in_err-refuse_if : goal.returns-in_err-refuse_if
unfolding board_refusal
returns-in_err-refuse_if c =
    stops_at _ _ _ _ c.from_residual.ensures.1 (stays _ _ _ (rw c.counts_fault.ensures at c.in_err-refuse_if.ensures))

pub returns-in_err-check_row : goal.returns-in_err-check_row
unfolding board_refusal
returns-in_err-check_row c =
    stops_at _ _ _ _ c.from_residual-in_err-check_row.ensures.1
    (goes_on_to _ _ _ _ (rw c.counts_fault.ensures at c.in_ok-refuse_if.ensures) c.in_err-check_row.ensures)

pub check_sets-requires : goal.check_sets-requires
check_sets-requires c =
    counts-inside _ _ _ _ (sym c.counts_fault.ensures ∙ was-faultless 5 0 _ _ (omega arith) c.in_ok-refuse_if.ensures)

pub returns : goal.returns
unfolding board_refusal
returns c =
    goes_on_to _ _ _ _ (goes_on_to _ _ _ _ (rw c.counts_fault.ensures at c.in_ok-refuse_if.ensures) c.in_ok-check_row.ensures) c.check_sets.ensures
