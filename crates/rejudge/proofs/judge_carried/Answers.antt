-- A newer table after an older one: the older table's refusals, the newer's, then the answers. Assumes nothing.
use mathlib.Core.Path.{◌≡◌}
use mathlib.Core.Bool.{true}
use Rattle.rules.specs.Chain.{is_accepted}
use Rattle.rules.specs.Refusals.{check_judged}
use Rattle.rejudge.proofs.Whose.{about_ok, about_err, returned-on}
use Rattle.rejudge.proofs.Again.{carried_promise, again_older, again_newer, again-judged}
use Rattle.rejudge.proofs.judge_carried.Goals.{In_ok-about, In_ok-about-2}
use Rattle.rejudge.proofs.judge_carried.Goals as goal

-- past the older table's refusals, and past the newer's
older-passes : (c : In_ok-about) → is_accepted (check_judged c.args.older) ≡ true
older-passes c = (about_ok _ _ _ c.table.ensures c.in_ok-about.ensures).0

newer-passes : (c : In_ok-about-2) → is_accepted (check_judged c.args.newer) ≡ true
newer-passes c = (about_ok _ _ _ c.table-2.ensures c.in_ok-about-2.ensures).0

pub returns-in_err-about : goal.returns-in_err-about
returns-in_err-about c =
    let w = about_err _ _ _ c.table.ensures c.in_err-about.ensures in
    carried_promise _ _ (rw (returned-on _ c.from_residual.ensures.1, w.1) (again_older _ _ w.0))

pub returns-in_err-about-2 : goal.returns-in_err-about-2
returns-in_err-about-2 c =
    let w = about_err _ _ _ c.table-2.ensures c.in_err-about-2.ensures in
    carried_promise _ _ (rw (returned-on _ c.from_residual-in_err-about-2.ensures.1, w.1) (again_newer _ _ (older-passes (goal.at.returns-in_err-about-2 c).In_ok-about) w.0))

pub answers_after-answers-requires : goal.answers_after-answers-requires
answers_after-answers-requires c = record {
  older_value = older-passes (goal.at.answers_after-answers-requires c).In_ok-about;
  newer_value = newer-passes (goal.at.answers_after-answers-requires c).In_ok-about-2;
  carried_value = c.worsens-carried.ensures;
}

pub returns : goal.returns
returns c =
    carried_promise _ _ (rw c.worsens-carried.ensures (again-judged _ _ (older-passes (goal.at.returns c).In_ok-about) (newer-passes (goal.at.returns c).In_ok-about-2) c.answers_after-answers.ensures))
