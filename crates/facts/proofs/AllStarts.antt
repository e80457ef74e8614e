-- The starts of all tasks together: where none is refused all are answered, and so it is of fresh starts, and of all older bounds where the newer
-- table is the older one worsened. Assumes nothing.
use mathlib.Core.Path.{◌≡◌}
use mathlib.Core.Bool.{true, false}
use mathlib.Core.List.{List, map}
use Prim.Native.Nat.{ℕ, ◌-◌, ◌≤◌}
use lib.ListN.{length}
use Rattle.equation.proofs.Solve.{fresh-allowed}
use Rattle.rules.specs.declared.Table.{Table}
use Rattle.laws.specs.Idioms.{up_to, entry}
use Rattle.rules.specs.declared.Answer.{Answer}
use Rattle.rules.specs.Judgement.{misses, judge, bound_of}
use Rattle.rules.specs.Order.{worsens}
use Rattle.rules.specs.Chain.{accepted, is_accepted, ◌or_else◌, first}
use Rattle.rules.specs.Refusals.{check_table, check_judged, late_start, high_start, check_all}
use Rattle.rules.specs.Operations.{answers_from, judge_all, fresh, fresh_starts, older_bound, older_bounds}
use Rattle.laws.proofs.Runs.{length-map-from}
use Rattle.laws.proofs.Filled.{only_default, filled-length, map-filled}
use Rattle.laws.proofs.Places.{place_of}
use Rattle.facts.specs.Starts.{AllAllowed}
use Rattle.facts.proofs.Accepted.{sound}
use Rattle.facts.proofs.Chain.{both-accepted}
use Rattle.facts.proofs.First.{first-none, none_first}
use Rattle.facts.proofs.Instance.{equation_of_lem, lowest-fits}
use Rattle.facts.proofs.Starts.{Judgeable, judged-accepted, passes-allowed, allowed-passes}
use Rattle.facts.proofs.LentStarts.{answers-same}
use Rattle.facts.proofs.Points.{carries}
use Rattle.facts.proofs.Worsened.{worsened}

-- ---- where none is refused, all are answered

module _ (t : Table) (passed : is_accepted (check_judged t) ≡ true) (starts : List ℕ) (all : AllAllowed t starts) where
  passes : (k : ℕ) → 1 ≤ k → k ≤ t.tasks → (late_start t k (entry 0 starts k) ≡ false) × (high_start t k (entry 0 starts k) ≡ false)
  passes k low high = allowed-passes t k (entry 0 starts k) (lowest-fits t (judged-accepted t passed) k low high) (all k low high)

  pub none-refused : check_all t (entry 0 starts) ≡ accepted
  unfolding check_all
  none-refused =
      simp (
        passed,
        first-none 13 (λ k. late_start t k (entry 0 starts k)) t.tasks (λ k low high. (passes k low high).0),
        first-none 14 (λ k. high_start t k (entry 0 starts k)) t.tasks (λ k low high. (passes k low high).1),
      )

  pub allowed-answers : (judge_all t starts).answers ≡ answers_from t (entry 0 starts)
  unfolding judge_all
  allowed-answers = rw none-refused

-- and back: each task of a judgement that is not refused may be judged from its start, and has that answer
module _ (t : Table) (starts : List ℕ) (passed : is_accepted (check_all t (entry 0 starts)) ≡ true) (k : ℕ) (low : 1 ≤ k) (high : k ≤ t.tasks) where
  pub all-judgeable : Judgeable t k (entry 0 starts k)
  unfolding check_all
  all-judgeable =
      let late-link = first 13 (λ k. late_start t k (entry 0 starts k)) t.tasks in
      let high-link = first 14 (λ k. high_start t k (entry 0 starts k)) t.tasks in
      let (to-13, no-high) = both-accepted (check_judged t or_else late-link) high-link passed in
      let (judged, no-late) = both-accepted (check_judged t) late-link to-13 in
      record {
        judged = judged;
        number = record { low = low; high = high };
        allowed =
            passes-allowed t k (entry 0 starts k)
            (none_first 12 (λ k. late_start t k (entry 0 starts k)) t.tasks no-late k low high)
            (none_first 13 (λ k. high_start t k (entry 0 starts k)) t.tasks no-high k low high);
      }

  pub all-answered : entry (misses 0) (judge_all t starts).answers k ≡ judge t k (entry 0 starts k)
  unfolding judge_all answers_from
  all-answered = rw passed (place_of (misses 0) (λ k. judge t k (entry 0 starts k)) 32 t.tasks k low high)

-- ---- fresh starts

pub fresh-starts : (k : ℕ) → entry 0 fresh_starts k ≡ fresh k
fresh-starts k = only_default 32 (k - 1) 0

module _ (t : Table) (passed : is_accepted (check_table t) ≡ true) where
  pub all-fresh : AllAllowed t fresh_starts
  all-fresh k low high = rw (fresh-starts k) (fresh-allowed (equation_of_lem t passed k low high))

  pub answers-long : (start : ℕ → ℕ) → length (answers_from t start) ≡ 32
  unfolding answers_from
  answers-long start = filled-length 32 (misses 0) (map (λ k. judge t k (start k)) (up_to t.tasks)) (rw (length-map-from (λ k. judge t k (start k)) t.tasks 1) (sound t passed).tasks-in.high)

  pub older_start : (k : ℕ) → 1 ≤ k → k ≤ t.tasks → entry 0 (older_bounds t) k ≡ older_bound t k
  unfolding older_bounds
  older_start k low high = place_of 0 (older_bound t) 32 t.tasks k low high

-- ---- older bounds

-- they are those of the fresh answers
pub bounds_of_answers : (t : Table) → map (λ (a : Answer). bound_of a.verdict) (answers_from t fresh) ≡ older_bounds t
unfolding answers_from older_bounds older_bound
bounds_of_answers t = map-filled (λ (a : Answer). bound_of a.verdict) (λ k. judge t k 0) 32 (misses 0) (up_to t.tasks)

module _ (older newer : Table) (was : is_accepted (check_table older) ≡ true) (is : is_accepted (check_table newer) ≡ true)
    (worse : worsens older newer ≡ true) where
  as_many : {k : ℕ} → k ≤ newer.tasks → k ≤ older.tasks
  as_many h = rw (worsened older newer worse).board.tasks h

  pub all-carried : AllAllowed newer (older_bounds older)
  all-carried k low high =
      rw (older_start older was k low (as_many high)) (carries older newer was is worse k low (as_many high)).allowed

  pub carried-answers : answers_from newer (entry 0 (older_bounds older)) ≡ answers_from newer (older_bound older)
  carried-answers = answers-same newer _ _ (λ k low high. older_start older was k low (as_many high))
