-- The checks before every judgement, in their order. Assumes nothing.
use Rattle.rules.specs.Refusals.{check_judged}
use Rattle.facts.proofs.Chain.{stops_at, goes_on_to}
use Rattle.admit.proofs.table.Goals as goal

pub returns-in_err-check : goal.returns-in_err-check
unfolding check_judged
returns-in_err-check c = stops_at _ _ _ _ c.from_residual.ensures.1 c.in_err-check.ensures

pub returns : goal.returns
unfolding check_judged
returns c = goes_on_to _ _ _ _ c.in_ok-check.ensures (rw c.says_salvaged.ensures at c.refuse_if.ensures)
