-- `judge_file` meets its contract. Assumes nothing.
use mathlib.Core.Path.{◌≡◌, ap, sym, ◌∙◌}
use mathlib.Core.Bool.{true}
use mathlib.Core.List.{List}
use Prim.Native.Nat.{ℕ}
use native.Mathlib.Omega.{arith}
use Rattle.std.specs.Prelude.{Result}
use Rattle.rules.specs.declared.Answer.{Answer}
use Rattle.rules.specs.declared.Refusal.{Refusal}
use Rattle.rules.specs.Chain.{is_accepted, granted}
use Rattle.rules.specs.File.{decode}
use Rattle.rules.specs.Operations.{check_to_judge, judge_all}
use Rattle.facts.proofs.Chain.{was-allowed}
use Rattle.facts.proofs.ToJudge.{judged_file}
use Rattle.file.proofs.Reading.{file_sized, file_counts}
use Rattle.judged.proofs.Judging.{file_refused, all-judged}
use Rattle.judged.proofs.judge_file.Goals.{In_ok-check}
use Rattle.judged.proofs.judge_file.Goals as goal

-- what the judgement of a file from some starts answers
abbrev given : List ℕ → List ℕ → Result (List Answer) Refusal
given s starts = granted (judge_all (decode s) starts).refusal (judge_all (decode s) starts).answers

accepts : (c : In_ok-check) → is_accepted (check_to_judge c.args.file.now) ≡ true
accepts c = (was-allowed _ _ (sym c.in_ok-check.ensures)).0

pub returns-in_err-check : goal.returns-in_err-check
returns-in_err-check c =
    let h = file_refused _ _ c.in_err-check.ensures c.from_residual.ensures.1 in
    record { value = h.0; judged_file = h.1 }

pub judge_accepted-judged-requires : goal.judge_accepted-judged-requires
judge_accepted-judged-requires c = accepts (goal.at.judge_accepted-judged-requires c).In_ok-check

pub of-tasks-requires : goal.of-tasks-requires
of-tasks-requires c = omega (arith, (file_sized _ (judged_file _ (accepts (goal.at.of-tasks-requires c).In_ok-check))).long)

pub store-requires : goal.store-requires
store-requires c = rw (c.from.ensures, c.of-tasks.ensures) (file_counts _ (judged_file _ (accepts (goal.at.store-requires c).In_ok-check))).1

pub returns : goal.returns
returns c =
    let is = c.judge_accepted-judged.ensures ∙ ap (λ (starts : List ℕ). given c.args.file.now starts) c.all_starts.ensures in
    let size = c.from.ensures in
    let h = all-judged _ _ (accepts (goal.at.returns c).In_ok-check) (rw (size, c.of-tasks.ensures) at c.store.ensures.value _ is) (rw (size, c.of-tasks.ensures) at c.store.ensures.stored _ is) in
    record { value = h.0; judged_file = h.1 }
