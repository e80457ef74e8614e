-- `carry_files` meets its contract: the older file's refusals, the newer's, then the outputs. Assumes nothing.
use mathlib.Core.Path.{◌≡◌, ◌∙◌}
use mathlib.Core.Bool.{true}
use Rattle.rules.specs.Chain.{is_accepted}
use Rattle.rules.specs.File.{decode}
use Rattle.rules.specs.Operations.{check_to_judge}
use Rattle.facts.proofs.ToJudge.{judged-table, read-to_judge_is}
use Rattle.rejudge.proofs.Whose.{about_ok, about_err}
use Rattle.recarry.proofs.Carrying.{older_refused, newer_refused, files-judged}
use Rattle.recarry.proofs.carry_files.Goals.{In_ok-before, In_ok-after}
use Rattle.recarry.proofs.carry_files.Goals as goal

-- past the older file's refusals, with its table; and past the newer's
older-passes : (c : In_ok-before) → let s = c.args.older.now in (is_accepted (check_to_judge s) ≡ true) × (decode s ≡ c.in_ok-before.before)
older-passes c = about_ok _ _ _ (c.read.ensures ∙ read-to_judge_is _) c.in_ok-before.ensures

newer-passes : (c : In_ok-after) → let s = c.args.newer.now in (is_accepted (check_to_judge s) ≡ true) × (decode s ≡ c.in_ok-after.after)
newer-passes c = about_ok _ _ _ (c.read-2.ensures ∙ read-to_judge_is _) c.in_ok-after.ensures

pub returns-in_err-before : goal.returns-in_err-before
returns-in_err-before c =
    let w = about_err _ _ _ (c.read.ensures ∙ read-to_judge_is _) c.in_err-before.ensures in
    let h = older_refused _ c.args.newer.now _ _ _ w.0 w.1 c.from_residual.ensures.1 in
    record { value = h.0; carried_files = h.1 }

pub returns-in_err-after : goal.returns-in_err-after
returns-in_err-after c =
    let w = about_err _ _ _ (c.read-2.ensures ∙ read-to_judge_is _) c.in_err-after.ensures in
    let h = newer_refused _ _ _ _ _ (older-passes (goal.at.returns-in_err-after c).In_ok-before).0 w.0 w.1 c.from_residual-in_err-after.ensures.1 in
    record { value = h.0; carried_files = h.1 }

pub store_after-requires : goal.store_after-requires
store_after-requires c =
    let was = older-passes (goal.at.store_after-requires c).In_ok-before in
    let is = newer-passes (goal.at.store_after-requires c).In_ok-after in
    record { older_value = rw (← was.1) (judged-table _ was.0); newer_value = rw (← is.1) (judged-table _ is.0) }

pub returns : goal.returns
returns c =
    let was = older-passes (goal.at.returns c).In_ok-before in
    let is = newer-passes (goal.at.returns c).In_ok-after in
    let h = files-judged _ _ _ _ _ was.0 is.0 was.1 is.1 c.store_after.ensures.value c.store_after.ensures.stored in
    record { value = c.about-3.ensures ∙ h.0; carried_files = h.1 }
