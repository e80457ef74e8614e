-- Judging lent columns that hold a table's figures is judging all of the table. Assumes nothing.
use mathlib.Core.Path.{◌≡◌, refl, ap, ◌∙◌}
use mathlib.Core.Bool.{Bool, true, false, cond}
use mathlib.Core.List.{List, map}
use Prim.Native.Nat.{ℕ, ◌+◌, ◌-◌, ◌≤◌}
use native.Mathlib.Omega.{arith}
use lib.Dec.{ltb}
use Rattle.std.specs.Prelude.{None, Some, is_none, unwrap_or}
use Rattle.laws.specs.Idioms.{entry, filled, up_to}
use Rattle.laws.proofs.Members.{member_up_to, map_same}
use Rattle.rules.specs.declared.Table.{Table}
use Rattle.rules.specs.declared.Answer.{Answer}
use Rattle.rules.specs.Judgement.{misses, judge}
use Rattle.rules.specs.Chain.{is_accepted, first, ◌or_else◌}
use Rattle.rules.specs.Refusals.{check_judged, late_start, high_start, check_all}
use Rattle.rules.specs.Operations.{answers_from, no_answers, judge_all}
use Rattle.facts.proofs.Starts.{judged-sound}
use Rattle.facts.proofs.First.{first-same, none_first}
use Rattle.facts.proofs.Chain.{both-accepted}
use Rattle.unjudged.specs.Unjudged.{first_after}
use Rattle.own.specs.declared.Lent.{Lent}
use Rattle.rounds.specs.Lent.{climbed_at, first_lowered, answered_or, judged_lent}
use Rattle.columns.specs.Numbered.{climbed_for}
use Rattle.columns.specs.Held.{Held}
use Rattle.columns.proofs.Holding.{of_climbed, tasks_are}

none_if : {A : Type 0} (b : Bool) (x : A) → is_none (cond b None (Some x)) ≡ b
none_if true x = refl
none_if false x = refl

where_true : {A : Type 0} {x y : A} (z : A) (b : Bool) → (b ≡ true → x ≡ y) → cond b x z ≡ cond b y z
where_true z true e = e refl
where_true z false e = refl

module _ (t : Table) (passed : is_accepted (check_judged t) ≡ true) {l : Lent} (o : Held t l) (starts : List ℕ) where
  climbed_is : (k : ℕ) → 1 ≤ k → k ≤ t.tasks → climbed_at l starts k ≡ climbed_for t k (entry 0 starts k)
  unfolding climbed_at
  climbed_is k low high =
      let back : k - 1 + 1 ≡ k = omega arith in
      rw back at (of_climbed t (judged-sound t passed) o (k - 1) (omega arith) (entry 0 starts k))

  late_is : first_after l.board.tasks l.latest starts ≡ first 13 (λ k. late_start t k (entry 0 starts k)) t.tasks
  unfolding first_after late_start
  late_is =
      rw (tasks_are t (judged-sound t passed) o)
      (first-same 13 t.tasks (λ k low high. ap (λ (d : ℕ). ltb d (entry 0 starts k)) (o.per_task.latest_is (k - 1) (omega arith))))

  lowered_is : first_lowered l starts ≡ first 14 (λ k. high_start t k (entry 0 starts k)) t.tasks
  unfolding first_lowered climbed_for
  lowered_is =
      ap (λ (n : ℕ). first 14 (λ k. is_none (climbed_at l starts k)) n) (tasks_are t (judged-sound t passed) o)
      ∙ first-same 14 t.tasks (λ k low high. ap is_none (climbed_is k low high) ∙ none_if (high_start t k (entry 0 starts k)) _)

  refusal_is : first_after l.board.tasks l.latest starts or_else first_lowered l starts ≡ check_all t (entry 0 starts)
  unfolding check_all
  refusal_is = rw (late_is, lowered_is) (simp passed)

  answer_is : (k : ℕ) → 1 ≤ k → k ≤ t.tasks → high_start t k (entry 0 starts k) ≡ false → unwrap_or (climbed_at l starts k) (misses 0) ≡ judge t k (entry 0 starts k)
  unfolding climbed_for
  answer_is k low high h = rw (climbed_is k low high, h)

  answers_are : is_accepted (check_all t (entry 0 starts)) ≡ true → filled 32 (misses 0) (map (λ k. unwrap_or (climbed_at l starts k) (misses 0)) (up_to l.board.tasks)) ≡ answers_from t (entry 0 starts)
  unfolding answers_from check_all
  answers_are all =
      let low14 = (both-accepted (check_judged t or_else first 13 (λ k. late_start t k (entry 0 starts k)) t.tasks) (first 14 (λ k. high_start t k (entry 0 starts k)) t.tasks) all).1 in
      ap (λ (n : ℕ). filled 32 (misses 0) (map (λ k. unwrap_or (climbed_at l starts k) (misses 0)) (up_to n))) (tasks_are t (judged-sound t passed) o)
      ∙ ap (λ (answers : List Answer). filled 32 (misses 0) answers)
      (map_same _ _ (up_to t.tasks) (λ k m. let there = member_up_to t.tasks m in answer_is k there.0 there.1 (none_first 13 (λ k. high_start t k (entry 0 starts k)) t.tasks low14 k there.0 there.1)))

  pub judged_is : judged_lent l starts ≡ judge_all t starts
  unfolding answered_or judge_all
  judged_is =
      rw refusal_is
      (ap (λ (answers : List Answer). record { refusal = check_all t (entry 0 starts); answers = answers }) (where_true no_answers (is_accepted (check_all t (entry 0 starts))) answers_are))
