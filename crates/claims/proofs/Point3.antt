-- Point 3 holds of the operations, and its premise on starts is needed. Assumes nothing.
use mathlib.Core.Path.{◌≡◌, refl, sym, ◌∙◌, ap}
use mathlib.Core.Bool.{true}
use mathlib.Core.List.{List}
use Prim.Native.Nat.{ℕ, ◌≤◌}
use native.Mathlib.Omega.{arith}
use Rattle.equation.specs.Outcome as outcome
use Rattle.equation.proofs.Times.{course_unique}
use Rattle.equation.proofs.Run.{start_fits}
use Rattle.rules.specs.declared.Table.{Table}
use Rattle.rules.specs.declared.Answer.{Answer}
use Rattle.rules.specs.declared.Refusal.{Refusal}
use Rattle.rules.specs.Results.{Judged}
use Rattle.rules.specs.declared.Delay.{Delay}
use Rattle.rules.specs.declared.Delay.TheVariants.{Request}
use Rattle.rules.specs.declared.Verdict.TheVariants.{Holds}
use Rattle.laws.specs.Idioms.{entry}
use Rattle.rules.specs.Units.{ps}
use Rattle.rules.specs.Tasks.{latest, task_of}
use Rattle.rules.specs.Response.{F, decider}
use Rattle.rules.specs.Judgement.{with_delay, rounds_of, judge}
use Rattle.rules.specs.Order.{worsens}
use Rattle.rules.specs.Chain.{accepted, is_accepted}
use Rattle.rules.specs.Refusals.{check_judged}
use Rattle.rules.specs.Operations.{judge_one, judge_all, answers_from, fresh, fresh_starts, older_bound, older_bounds, verdicts, check_both, is_carried, rejudging}
use Rattle.rules.specs.Figures.{two_solutions}
use Rattle.rules.proofs.EveryRule.{every_rule}
use Rattle.facts.proofs.Chain.{both-accepted}
use Rattle.facts.proofs.Starts.{Judgeable, judged-accepted}
use Rattle.facts.proofs.Instance.{lowest-fits}
use Rattle.facts.proofs.LentStarts.{answers-same}
use Rattle.facts.proofs.AllStarts.{none-refused, allowed-answers, fresh-starts, all-fresh, older_start, all-carried, carried-answers}
use Rattle.facts.proofs.Points.{start_right, start-limit, carries, carried-judgeable}
use Rattle.facts.proofs.Worsened.{worsened}
use Rattle.facts.proofs.Again.{rejudged_verdicts}
use Rattle.claims.specs.Point2.{JudgedTask, task_answer}
use Rattle.claims.specs.Point3.{NewerWorse, outcome_of, Counted, AnsweredFromOlder, FromOlder, PointThree, StartsMatter}
use Rattle.file_claims.proofs.NoRefusal.{both-tables-plain}
use Rattle.claims.proofs.Point2.{may, judged-right, one-passed, one-answered, one_open, answered, fresh_answer, fresh-judgeable}

-- ---- the rounds from a start that is not refused

outcome_of_lem : (by : ℕ → Delay) (v : outcome.Outcome) → outcome_of (with_delay by v) ≡ v
outcome_of_lem by (outcome.found R) = refl
outcome_of_lem by outcome.nothing = refl

counted : (t : Table) (k start : ℕ) → Judgeable t k start → Counted t k start (judge t k start)
unfolding judge rounds_of
counted t k start j =
    let fits = lowest-fits t (judged-accepted t j.judged) k j.number.low j.number.high in
    let course = (start_right t k start j).course fits in
    record {
      course = rw (outcome_of_lem (decider t k)) course;
      only = λ v n other. (course_unique (start_fits j.allowed fits) other course).1;
      limit = start-limit t k start j;
    }

-- ---- fresh answers, all together

fresh-answers : (t : Table) → is_accepted (check_judged t) ≡ true → (judge_all t fresh_starts).answers ≡ answers_from t fresh
fresh-answers t table =
    allowed-answers t table fresh_starts (all-fresh t (judged-accepted t table)) ∙ answers-same t (entry 0 fresh_starts) fresh (λ k low high. fresh-starts k)

-- what was judged, by its two parts
judged-both : {j : Judged} {r : Refusal} {a : Answer} → j.refusal ≡ r → j.answer ≡ a → j ≡ record { refusal = r; answer = a }
judged-both e f = rw (e, f)

-- ---- a newer table that is the older one worsened

module _ (older newer : Table) (w : NewerWorse older newer) where
  passed : (judge_all newer (older_bounds older)).refusal ≡ accepted
  unfolding judge_all
  passed = none-refused newer (may newer w.newer_judged) (older_bounds older) (all-carried older newer w.older_judged.accepted w.newer_judged.accepted w.alike)

  carried : (judge_all newer (older_bounds older)).answers ≡ answers_from newer (older_bound older)
  carried =
      allowed-answers newer (may newer w.newer_judged) (older_bounds older) (all-carried older newer w.older_judged.accepted w.newer_judged.accepted w.alike)
      ∙ carried-answers older newer w.older_judged.accepted w.newer_judged.accepted w.alike

  both_accept : is_accepted (check_both older newer) ≡ true
  unfolding check_both
  both_accept = rw (may older w.older_judged, may newer w.newer_judged)

  again-accepted : (rejudging older newer).refusal ≡ accepted
  unfolding rejudging
  again-accepted = both-tables-plain older newer both_accept

  again-carried : (rejudging older newer).carried ≡ true
  unfolding rejudging is_carried
  again-carried = rw (both_accept, w.alike)

  again-answers : (rejudging older newer).answers ≡ (judge_all newer (older_bounds older)).answers
  unfolding rejudging
  again-answers = rw (both_accept, w.alike) (sym carried)

  same : verdicts (judge_all newer (older_bounds older)).answers ≡ verdicts (judge_all newer fresh_starts).answers
  same = rw (← again-answers, fresh-answers newer (may newer w.newer_judged)) (rejudged_verdicts older newer both_accept)

  module _ (k : ℕ) (low : 1 ≤ k) (high : k ≤ newer.tasks) where
    in_older : k ≤ older.tasks
    in_older = rw (worsened older newer w.alike).board.tasks high

    task : JudgedTask newer k
    task = record { table = w.newer_judged; first = low; last = high }

    start : Judgeable newer k (older_bound older k)
    start = carried-judgeable older newer w.older_judged.accepted w.newer_judged.accepted w.alike k low in_older (may newer w.newer_judged)

    answer_is : task_answer k (judge_all newer (older_bounds older)).answers ≡ judge newer k (older_bound older k)
    answer_is =
        answered newer (older_bounds older) (rw passed) k low high
        ∙ ap (judge newer k) (older_start older w.older_judged.accepted k low in_older)

    fresh_is : task_answer k (judge_all newer fresh_starts).answers ≡ judge newer k 0
    fresh_is = fresh_answer newer k task ∙ one-answered newer k 0 (fresh-judgeable newer k task)

    no_more : (judge newer k (older_bound older k)).rounds ≤ (judge newer k 0).rounds
    unfolding judge rounds_of
    no_more = (carries older newer w.older_judged.accepted w.newer_judged.accepted w.alike k low in_older).no_more

    correct : outcome.Correct (F newer k) 1 (latest (task_of newer k)) (rounds_of newer k (older_bound older k)).verdict
    unfolding rounds_of
    correct = (carries older newer w.older_judged.accepted w.newer_judged.accepted w.alike k low in_older).right

    from-bound : AnsweredFromOlder older newer k (task_answer k (judge_all newer (older_bounds older)).answers)
    from-bound = rw answer_is (record {
      right = judged-right newer k (older_bound older k) 1 correct;
      counted = counted newer k (older_bound older k) start;
      no_more = rw fresh_is no_more;
    })

    alone : judge_one newer k (older_bound older k) ≡ record { refusal = accepted; answer = task_answer k (judge_all newer (older_bounds older)).answers }
    alone = rw answer_is (judged-both (one-passed newer k (older_bound older k) start) (one-answered newer k (older_bound older k) start))

  from_older : FromOlder older newer
  from_older = record {
    not_refused = passed;
    each = from-bound;
    same = same;
    again-accepted = again-accepted;
    again-carried = again-carried;
    again-answers = again-answers;
  }

-- ---- and after any older table

after_any : (older newer : Table) → is_accepted (rejudging older newer).refusal ≡ true
    → verdicts (rejudging older newer).answers ≡ verdicts (judge_all newer fresh_starts).answers
unfolding rejudging check_both
after_any older newer passed =
    rw (fresh-answers newer (both-accepted (check_judged older) (check_judged newer) passed).1) (rejudged_verdicts older newer passed)

pub point_three : PointThree
point_three = record {
  from_older = from_older;
  one = alone;
  every-start = λ t k start passed. let j = one_open t k start passed in rw (one-answered t k start j) (counted t k start j);
  whatever_older = after_any;
}

-- ---- the two solutions

bounded-fresh : (judge_one two_solutions 2 0).answer.verdict ≡ Holds (ps 9_000_000_000) Request
unfolding every_rule
bounded-fresh = refl

bounded_later : (judge_one two_solutions 2 12_000_000_000).answer.verdict ≡ Holds (ps 15_000_000_000) Request
unfolding every_rule
bounded_later = refl

allowed_later : (judge_one two_solutions 2 12_000_000_000).refusal ≡ accepted
unfolding every_rule
allowed_later = refl

pub starts_matter : StartsMatter
starts_matter = record {
  table = two_solutions;
  task = 2;
  start = 12_000_000_000;
  not_refused = allowed_later;
  bound = 9_000_000_000;
  later_bound = 15_000_000_000;
  fresh = (Request, bounded-fresh);
  from_start = (Request, bounded_later);
  differ = omega arith;
}
