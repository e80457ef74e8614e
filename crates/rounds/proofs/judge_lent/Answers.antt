-- 13, then 14, or every task's answer. Assumes nothing.
use mathlib.Core.Path.{◌≡◌, refl, sym, ◌∙◌}
use Prim.Native.Nat.{ℕ, ◌-◌, ◌≤◌, ◌<◌}
use native.Mathlib.Omega.{arith}
use lib.ListN.{get_or}
use Rattle.laws.specs.Idioms.{Within}
use Rattle.facts.proofs.Chain.{was-allowed}
use Rattle.unjudged.proofs.OnTime.{on_time}
use Rattle.rounds.specs.Lent.{place_at}
use Rattle.rounds.proofs.Nexts.{nexts_none, nexts_next, next_at}
use Rattle.rounds.proofs.Judging.{at_number, stops-late, none_judged, stops-high, goes_on_low, all-answered}
use Rattle.rounds.proofs.judge_lent.Goals.{In-loop-i}
use Rattle.rounds.proofs.judge_lent.Goals as goal

-- the task in the loop's place
module _ (c : In-loop-i) where
  abbrev i : ℕ
  i = c.loop-i.i

  here : i < c.args.l.now.board.tasks
  here = c.loop-i-test.true

  few : i < 32
  few = omega (arith, here, c.requires.few)

  core_in : Within 1 8 (get_or c.args.l.now.core i 0)
  core_in = c.requires.core_in i here

  stands : get_or c.loop-i.next (get_or c.args.l.now.core i 0 - 1) 0 ≡ place_at c.args.l.now i
  unfolding place_at
  stands = next_at c.args.l.now.core i core_in c.loop-i.invariant.1

  place_low : get_or c.loop-i.next (get_or c.args.l.now.core i 0 - 1) 0 ≤ 32
  place_low = omega (arith, stands, c.requires.place_low i here)

pub returns-in_err-late : goal.returns-in_err-late
returns-in_err-late c = stops-late c.args.l.now c.args.starts.now c.from_residual.ensures.1 c.in_err-late.ensures

pub loop-i-init : goal.loop-i-init
loop-i-init c = (rw c.no_answers-answers.ensures (none_judged _ _), nexts_none _ c.requires.long)

pub overflow_add-next : goal.overflow_add-next
overflow_add-next c = omega (arith, place_low (goal.at.overflow_add-next c).In-loop-i)

pub judge_at-requires-clause-here : goal.judge_at-requires-clause-here
judge_at-requires-clause-here c =
    let p = (goal.at.judge_at-requires-clause-here c).In-loop-i in
    let late = was-allowed _ _ (sym c.in_ok-late.ensures) in
    (here p, stands p, (on_time c.args.l.now.latest c.args.starts.now c.args.l.now.board.tasks late.0).each c.loop-i.i (here p))

pub returns-in_default : goal.returns-in_default
returns-in_default c =
    let p = (goal.at.returns-in_default c).In-loop-i in
    stops-high c.args.l.now c.args.starts.now c.in_ok-late.ensures c.loop-i.i c.loop-i.invariant.0 (here p)
    (sym c.in_default.is ∙ c.judge_at.ensures ∙ at_number c.args.l.now c.args.starts.now c.loop-i.i) c.refuse.ensures

pub loop-i-preserved : goal.loop-i-preserved
loop-i-preserved c =
    let p = (goal.at.loop-i-preserved c).In-loop-i in (
      goes_on_low c.args.l.now c.args.starts.now c.in_ok-late.ensures c.loop-i.i c.loop-i.invariant.0 (here p) (few p)
          (sym c.in-Some.is ∙ c.judge_at.ensures ∙ at_number c.args.l.now c.args.starts.now c.loop-i.i),
      nexts_next c.args.l.now.core c.loop-i.i (core_in p) c.loop-i.invariant.1 refl,
    )

pub returns : goal.returns
returns c =
    all-answered c.args.l.now c.args.starts.now c.in_ok-late.ensures c.loop-i.i c.loop-i.invariant.0 (omega arith) (omega arith)
