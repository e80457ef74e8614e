-- 6, then 7. Assumes nothing.
use Rattle.rules.specs.Refusals.{check_timing}
use Rattle.facts.proofs.Chain.{stops_at, goes_on_to}
use Rattle.timing.proofs.check.Goals as goal

pub returns-in_err-check_ranges : goal.returns-in_err-check_ranges
unfolding check_timing
returns-in_err-check_ranges c = stops_at _ _ _ _ c.from_residual.ensures.1 c.in_err-check_ranges.ensures

pub returns : goal.returns
unfolding check_timing
returns c = goes_on_to _ _ _ _ c.in_ok-check_ranges.ensures c.check_relations.ensures
