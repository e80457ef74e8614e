-- The refusal, then the table. Assumes nothing.
use mathlib.Core.Path.{◌≡◌, sym, ◌∙◌}
use mathlib.Core.Bool.{true}
use native.Mathlib.Omega.{arith}
use Rattle.rules.specs.Chain.{is_accepted}
use Rattle.rules.specs.File.{decode}
use Rattle.rules.specs.Operations.{check_file, check_to_judge}
use Rattle.facts.proofs.Chain.{returned, denied-alike, allowed, was-allowed}
use Rattle.facts.proofs.ToJudge.{judged_file, read-to_judge_is}
use Rattle.fields.proofs.Steps.{records-end}
use Rattle.file.proofs.Reading.{file_sized, file_counts}
use Rattle.admit_file.proofs.read.Goals.{In_ok-check}
use Rattle.admit_file.proofs.read.Goals as goal

pub returns-in_err-check : goal.returns-in_err-check
returns-in_err-check c = returned _ c.from_residual.ensures.1 ∙ denied-alike _ _ _ c.in_err-check.ensures ∙ sym (read-to_judge_is _)

passed : (c : In_ok-check) → is_accepted (check_to_judge c.args.file.now) ≡ true
passed c = (was-allowed _ _ (sym c.in_ok-check.ensures)).0

came : (c : In_ok-check) → is_accepted (check_file c.args.file.now) ≡ true
came c = judged_file _ (passed c)

pub of-header-requires : goal.of-header-requires
of-header-requires c = omega (arith, (file_sized _ (came (goal.at.of-header-requires c).In_ok-check)).long)

pub table-requires : goal.table-requires
table-requires c =
    let e = came (goal.at.table-requires c).In_ok-check in
    rw c.of-header.ensures (record { file_bound = file_counts _ e; n_in_bounds = records-end c.args.file.now (file_sized _ e) })

pub returns : goal.returns
unfolding decode
returns c = rw (c.table.ensures, c.of-header.ensures) (sym (allowed _ _ (passed (goal.at.returns c).In_ok-check))) ∙ sym (read-to_judge_is _)
