-- A judgement looks only at the starts of its tasks: the lent starts serve, and so do those in 32 places with 0 in the others. Assumes nothing.
use mathlib.Core.Path.{◌≡◌}
use mathlib.Core.List.{List}
use Prim.Native.Nat.{ℕ, ◌≤◌}
use native.Mathlib.Omega.{arith}
use lib.ListN.{take}
use Rattle.rules.specs.declared.Table.{Table}
use Rattle.rules.specs.Judgement.{judge}
use Rattle.rules.specs.Refusals.{late_start, high_start, check_all}
use Rattle.rules.specs.Operations.{answers_from, judge_all}
use Rattle.laws.specs.Idioms.{entry, filled, up_to}
use Rattle.laws.proofs.Members.{member_up_to, map_same}
use Rattle.laws.proofs.Filled.{filled-entry}
use Rattle.facts.proofs.First.{first-same}

module _ (t : Table) (start other : ℕ → ℕ) (same : (k : ℕ) → 1 ≤ k → k ≤ t.tasks → start k ≡ other k) where
  check-same : check_all t start ≡ check_all t other
  unfolding check_all
  check-same =
      rw (
        first-same 13 {f = λ k. late_start t k (start k)} {g = λ k. late_start t k (other k)} t.tasks (λ k low high. rw (same k low high)),
        first-same 14 {f = λ k. high_start t k (start k)} {g = λ k. high_start t k (other k)} t.tasks (λ k low high. rw (same k low high)),
      )

  pub answers-same : answers_from t start ≡ answers_from t other
  unfolding answers_from
  answers-same =
      rw
      (map_same (λ k. judge t k (start k)) (λ k. judge t k (other k)) (up_to t.tasks)
      (λ k m. rw (same k (member_up_to t.tasks m).0 (member_up_to t.tasks m).1)))

judge-same : (t : Table) (starts others : List ℕ) → ((k : ℕ) → 1 ≤ k → k ≤ t.tasks → entry 0 starts k ≡ entry 0 others k)
    → judge_all t starts ≡ judge_all t others
unfolding judge_all
judge-same t starts others same = rw (check-same t (entry 0 starts) (entry 0 others) same, answers-same t (entry 0 starts) (entry 0 others) same)

pub lent_starts_lem : (t : Table) (starts : List ℕ) → t.tasks ≤ 32 → judge_all t (filled 32 0 (take 32 starts)) ≡ judge_all t starts
lent_starts_lem t starts few = judge-same t (filled 32 0 (take 32 starts)) starts (λ k low high. filled-entry 32 0 starts k low (omega arith))
