-- 1 to 4, then 5 to 11 and 16. Assumes nothing.
use mathlib.Core.Path.{sym}
use Rattle.rules.specs.Operations.{check_file}
use Rattle.facts.proofs.Chain.{stops_at, goes_on_to, was-allowed}
use Rattle.file.proofs.check.Goals as goal

pub returns-in_err-whole : goal.returns-in_err-whole
unfolding check_file
returns-in_err-whole c = stops_at _ _ _ _ c.from_residual.ensures.1 c.in_err-whole.ensures

pub figures_refusal-requires : goal.figures_refusal-requires
figures_refusal-requires c = (was-allowed _ _ (sym c.in_ok-whole.ensures)).0

pub returns : goal.returns
unfolding check_file
returns c = goes_on_to _ _ _ _ c.in_ok-whole.ensures c.figures_refusal.ensures
