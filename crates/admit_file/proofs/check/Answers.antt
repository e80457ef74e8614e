-- What reading refuses, then 18. Assumes nothing.
use mathlib.Core.Path.{sym}
use native.Mathlib.Omega.{arith}
use Rattle.rules.specs.Operations.{check_to_judge}
use Rattle.facts.proofs.Chain.{stops_at, goes_on_to, was-allowed}
use Rattle.file.proofs.Reading.{file_sized}
use Rattle.admit_file.proofs.check.Goals as goal

pub returns-in_err-check : goal.returns-in_err-check
unfolding check_to_judge
returns-in_err-check c = stops_at _ _ _ _ c.from_residual.ensures.1 c.in_err-check.ensures

pub of-requires : goal.of-requires
of-requires c = omega (arith, (file_sized _ (was-allowed _ _ (sym c.in_ok-check.ensures)).0).long)

pub returns : goal.returns
unfolding check_to_judge
returns c = goes_on_to _ _ _ _ c.in_ok-check.ensures (rw (c.says_salvaged.ensures, c.of.ensures) at c.refuse_if.ensures)
