-- Point 3 of docs/CLAIMS.md, of the operations: a newer table judged from the older one's bounds. Assumes nothing.
use Rattle.std.specs.Prelude.{ℕ, ◌≤◌, ◌<◌, ◌≡◌, true}
use Rattle.equation.specs.Outcome.{Outcome, found, nothing}
use Rattle.equation.specs.Rounds.{Course}
use Rattle.rules.specs.declared.Table.{Table}
use Rattle.rules.specs.declared.Answer.{Answer}
use Rattle.rules.specs.declared.Delay.{Delay}
use Rattle.rules.specs.declared.Verdict.{Verdict}
use Rattle.rules.specs.declared.Verdict.TheVariants.{Holds, Misses}
use Rattle.rules.specs.Units.{ps}
use Rattle.rules.specs.Tasks.{latest, task_of}
use Rattle.rules.specs.Others.{round_limit}
use Rattle.rules.specs.Response.{F}
use Rattle.rules.specs.Judgement.{start_of}
use Rattle.rules.specs.Order.{worsens}
use Rattle.rules.specs.Chain.{accepted, is_accepted}
use Rattle.rules.specs.Operations.{judge_one, judge_all, fresh_starts, older_bound, older_bounds, verdicts, rejudging}
use Rattle.claims.specs.Point2.{MayBeJudged, Right, task_answer}

-- the premise: both tables may be judged, and the newer is the older one worsened (RULES 6.4)
pub record NewerWorse (older newer : Table) : Type 0 where
  pub older_judged : MayBeJudged older
  pub newer_judged : MayBeJudged newer
  pub alike : worsens older newer ≡ true

-- what the rounds ended in, by the verdict
abbrev pub outcome_of : Verdict → Outcome
outcome_of (Holds bound by) = found bound.0
outcome_of Misses = nothing

-- the rounds are those of RULES 6.1 from that start: each round's t is F of the last, every round before the last raises it and not past the
-- deadline, and the last ends as the verdict says. No other number has that course.
pub record Counted (t : Table) (k start : ℕ) (a : Answer) : Type 0 where
  pub course : Course (F t k) (latest (task_of t k)) (start_of t k start) (outcome_of a.verdict) a.rounds
  pub only : (v : Outcome) (n : ℕ) → Course (F t k) (latest (task_of t k)) (start_of t k start) v n → n ≡ a.rounds
  -- RULES 6.7
  pub limit : a.rounds ≤ round_limit t k

-- an answer to task k of the newer table, from its older bound
pub record AnsweredFromOlder (older newer : Table) (k : ℕ) (a : Answer) : Type 0 where
  -- right as point 2 has it of the newer table: solutions are looked for from 1, wherever the rounds start
  pub right : Right newer k 1 a.verdict
  pub counted : Counted newer k (older_bound older k) a
  -- RULES 6.6
  pub no_more : a.rounds ≤ (task_answer k (judge_all newer fresh_starts).answers).rounds

-- from the starts of RULES 6.5, `older_bounds`
pub record FromOlder (older newer : Table) : Type 0 where
  -- all older bounds together are accepted starts of the newer table
  pub not_refused : (judge_all newer (older_bounds older)).refusal ≡ accepted
  pub each : (k : ℕ) → 1 ≤ k → k ≤ newer.tasks → AnsweredFromOlder older newer k (task_answer k (judge_all newer (older_bounds older)).answers)
  -- with the fresh verdicts
  pub same : verdicts (judge_all newer (older_bounds older)).answers ≡ verdicts (judge_all newer fresh_starts).answers
  -- a newer table judged after an older one is judged from them
  pub again-accepted : (rejudging older newer).refusal ≡ accepted
  pub again-carried : (rejudging older newer).carried ≡ true
  pub again-answers : (rejudging older newer).answers ≡ (judge_all newer (older_bounds older)).answers

pub record PointThree : Type 0 where
  pub from_older : (older newer : Table) → NewerWorse older newer → FromOlder older newer
  -- one task: the same start is not refused and gives the same answer
  pub one : (older newer : Table) → NewerWorse older newer → (k : ℕ) → 1 ≤ k → k ≤ newer.tasks
      → judge_one newer k (older_bound older k) ≡ record { refusal = accepted; answer = task_answer k (judge_all newer (older_bounds older)).answers }
  -- the course and the limit hold from every start that is not refused
  pub every-start : (t : Table) (k start : ℕ) → is_accepted (judge_one t k start).refusal ≡ true → Counted t k start (judge_one t k start).answer
  -- a newer table judged after any older one has its fresh verdicts
  pub whatever_older : (older newer : Table) → is_accepted (rejudging older newer).refusal ≡ true
      → verdicts (rejudging older newer).answers ≡ verdicts (judge_all newer fresh_starts).answers

-- Not every start will do: one that is not refused and is above the bound can give another bound (RULES 11.7).
pub record StartsMatter : Type 0 where
  pub table : Table
  pub task : ℕ
  pub start : ℕ
  pub not_refused : (judge_one table task start).refusal ≡ accepted
  pub bound : ℕ
  pub later_bound : ℕ
  pub fresh : (by : Delay) × ((judge_one table task 0).answer.verdict ≡ Holds (ps bound) by)
  pub from_start : (by : Delay) × ((judge_one table task start).answer.verdict ≡ Holds (ps later_bound) by)
  pub differ : bound < later_bound
