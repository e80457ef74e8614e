-- The order of refusals of a judgement, link by link. Assumes nothing.
use mathlib.Core.Path.{◌≡◌, refl, sym, ap, ◌∙◌}
use mathlib.Core.Bool.{Bool, true, false, cond}
use mathlib.Core.List.{List}
use Prim.Native.Nat.{ℕ, ◌≤◌}
use native.Mathlib.Omega.{arith}
use borrow.Author.Tests.{ltb-false, not-false}
use Rattle.std.specs.Prelude.{Result, Ok, Err, None, Some, ok_or, IsErrAnd}
use Rattle.rules.specs.declared.Table.{Table}
use Rattle.rules.specs.declared.Refusal.{Refusal}
use Rattle.rules.specs.declared.Answer.{Answer}
use Rattle.rules.specs.Tasks.{latest, task_of}
use Rattle.rules.specs.Judgement.{judge}
use Rattle.facts.specs.Sound.{Sound}
use Rattle.rules.specs.Refusals.{check_judged, asked_fault, late_start, high_start, check_one, check_all, check_start}
use Rattle.rules.specs.Operations.{judge_one, judge_all}
use Rattle.facts.proofs.Chain.{both-accepted, no_fault, returned, denied, was-allowed, was-denied, faulty, faultless, stops_at, goes_on_to}
use Rattle.facts.proofs.Starts.{judged-sound}
use Rattle.laws.specs.Idioms.{Within}
use Rattle.laws.proofs.Tests.{inside}
use Rattle.columns.specs.Numbered.{climbed_for}
use Rattle.rules.specs.Chain.{refused, is_accepted, ◌or_else◌, given, granted}

-- ---- one task

-- what is not refused before the rounds has an accepted table, a task of it, and a start that is not late
module _ (t : Table) (k start : ℕ) (passed : is_accepted (check_start t k start) ≡ true) where
  start-links : (is_accepted (check_judged t or_else given 12 0 (asked_fault t k)) ≡ true) × (is_accepted (given 13 k (late_start t k start)) ≡ true)
  unfolding check_start
  start-links = both-accepted (check_judged t or_else given 12 0 (asked_fault t k)) (given 13 k (late_start t k start)) passed

  first-links : (is_accepted (check_judged t) ≡ true) × (is_accepted (given 12 0 (asked_fault t k)) ≡ true)
  first-links = both-accepted (check_judged t) (given 12 0 (asked_fault t k)) start-links.0

  pub start-sound : Sound t
  start-sound = judged-sound t first-links.0

  pub start-within : Within 1 t.tasks k
  unfolding asked_fault
  start-within = inside 1 t.tasks k (not-false _ (no_fault 11 0 (asked_fault t k) first-links.1))

  pub start_fits : start ≤ latest (task_of t k)
  unfolding late_start
  start_fits = ltb-false (latest (task_of t k)) start (no_fault 12 k (late_start t k start) start-links.1)

-- 14, or the answer
settled : (k : ℕ) (high : Bool) (a b : Answer) → (high ≡ false → a ≡ b) → ok_or (cond high None (Some a)) (refused 14 k) ≡ granted (given 14 k high) b
settled k true a b e = faulty 14 k b (omega arith) refl
settled k false a b e = ap Ok (e refl) ∙ faultless 14 k b refl

module _ (t : Table) (k start : ℕ) where
  abbrev one_answered : Result Answer Refusal
  one_answered = granted (judge_one t k start).refusal (judge_one t k start).answer

  pub stops-start : {r : Result Answer Refusal} {d : Refusal} → IsErrAnd r (λ e. e ≡ d) → Err d ≡ granted (check_start t k start) (tt {0}) → r ≡ one_answered
  unfolding judge_one check_one
  stops-start h e = stops_at (check_start t k start) (given 14 k (high_start t k start)) (tt {0}) _ h e

  pub rounds-decide : {v : Unit {0}} → Ok v ≡ granted (check_start t k start) (tt {0}) → {r : Result Answer Refusal}
      → r ≡ ok_or (climbed_for t k start) (refused 14 k) → r ≡ one_answered
  unfolding judge_one check_one climbed_for
  rounds-decide e is =
      let passed = (was-allowed (check_start t k start) (tt {0}) (sym e)).0 in
      goes_on_to (check_start t k start) (given 14 k (high_start t k start)) (tt {0}) _ e
      (is ∙ settled k (high_start t k start) (judge t k start) _ (λ low. rw (passed, low)))

-- ---- all tasks

module _ (t : Table) (starts : List ℕ) where
  pub stops-table : {r : Result (List Answer) Refusal} {d : Refusal} → IsErrAnd r (λ e. e ≡ d) → Err d ≡ granted (check_judged t) (tt {0})
      → r ≡ granted (judge_all t starts).refusal (judge_all t starts).answers
  unfolding judge_all check_all
  stops-table {r} {d} h e =
      let w = was-denied (check_judged t) (tt {0}) (sym e) in
      returned r h ∙ rw (← w.1) (simp w.0 (sym (denied (check_judged t) _ w.0)))
