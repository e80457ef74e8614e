-- `of_file` meets its contract: what the check of the bytes and the judgement give decides. Assumes nothing.
use mathlib.Core.Path.{◌≡◌, refl, sym, ◌∙◌}
use mathlib.Core.Bool.{true}
use native.Mathlib.Omega.{arith}
use Rattle.rules.specs.Chain.{is_accepted}
use Rattle.rules.specs.File.{decode}
use Rattle.rules.specs.Operations.{check_to_judge, judge_all, fresh_starts}
use Rattle.facts.proofs.Chain.{asked_err}
use Rattle.facts.proofs.ToJudge.{judged_file, judged-table}
use Rattle.columns.proofs.Given.{fresh_given}
use Rattle.file.proofs.Reading.{file_sized, file_counts}
use Rattle.status.proofs.Decided.{status_refused, status_accepted}
use Rattle.status.proofs.of_file.Goals.{Else-is_err}
use Rattle.status.proofs.of_file.Goals as goal

accepts : (c : Else-is_err) → is_accepted (check_to_judge c.args.file.now) ≡ true
accepts c = asked_err _ _ c.check.ensures c.if-is_err.ensures.value

pub returns-then-is_err : goal.returns-then-is_err
returns-then-is_err c = sym (status_refused _ (asked_err _ _ c.check.ensures c.if-is_err.ensures.value))

pub judge_accepted-requires : goal.judge_accepted-requires
judge_accepted-requires c = accepts c

pub unwrap-answers-requires : goal.unwrap-answers-requires
unwrap-answers-requires c =
    let passed = accepts (goal.at.unwrap-answers-requires c).Else-is_err in
    rw (c.judge_accepted.ensures ∙ fresh_given (decode c.args.file.now) (judged-table _ passed)) refl

pub of-requires : goal.of-requires
of-requires c = omega (arith, (file_sized _ (judged_file _ (accepts (goal.at.of-requires c).Else-is_err))).long)

pub of_answers-requires : goal.of_answers-requires
of_answers-requires c = rw c.of.ensures (file_counts _ (judged_file _ (accepts (goal.at.of_answers-requires c).Else-is_err))).1

pub returns : goal.returns
returns c =
    let file = c.args.file.now in
    let passed = accepts (goal.at.returns c).Else-is_err in
    let are : c.unwrap-answers.result ≡ (judge_all (decode file) fresh_starts).answers = cc (c.judge_accepted.ensures ∙ fresh_given (decode file) (judged-table _ passed)) in
    (rw (are, c.of.ensures) at c.of_answers.ensures) ∙ sym (status_accepted _ passed)
