-- The last line, by the place of the first task that misses: that of task number i + 1 is i. Assumes nothing.
use mathlib.Core.Path.{◌≡◌, ◌∙◌, sym}
use mathlib.Core.Bool.{Bool, true, false}
use mathlib.Core.List.{List}
use Prim.Native.Nat.{ℕ, zero, suc, ◌+◌, ◌-◌, ◌≤◌, ◌<◌}
use native.Mathlib.Nat.{add-sub_cancel, sub-zero}
use native.Mathlib.Numerals.{add-one}
use native.Mathlib.Omega.{arith}
use lib.ListN.{length, take, get_or}
use lib.Seq.{get_or-take, length-take-le}
use Rattle.std.specs.List.{AllWithin, HoldsAt}
use Rattle.rules.specs.declared.Answer.{Answer}
use Rattle.laws.specs.Idioms.{from, entry, those}
use Rattle.rules.specs.Judgement.{misses}
use Rattle.rules.specs.Listing.{is_miss, last_line}
use Rattle.std.proofs.Common.{Some, None}
use Rattle.misses.specs.Last.{last, last_for}

module _ (answers : List Answer) where
  missed : ℕ → Bool
  missed i = is_miss (get_or answers i (misses 0)).verdict

  last_from : ℕ → ℕ → List ℕ
  last_from i n = last_line (those (λ k. is_miss (entry (misses 0) answers k).verdict) (from (i + 1) (n - i)))

  last_pass : (i n : ℕ) → i < n → missed i ≡ false → last_from i n ≡ last_from (i + 1) n
  unfolding missed last_from from
  last_pass i n h m =
      let e : n - i ≡ suc (n - (i + 1)) = omega arith in
      rw (e, add-sub_cancel i 1, m)

  last-start : (n : ℕ) → last answers n ≡ last_from 0 n
  unfolding last last_from
  last-start n = rw sub-zero

  -- what is after the first tasks, none of which misses
  last_after : (i n : ℕ) → i ≤ n → ((k : ℕ) → k < i → missed k ≡ false) → last answers n ≡ last_from i n
  last_after zero n h none = last-start n
  last_after (suc i) n h none = last_after i n (omega arith) (λ k lt. none k (omega arith)) ∙ rw add-one at (last_pass i n (omega arith) (none i (omega arith)))

  -- no task of the first n misses, and the first that does
  module _ (n : ℕ) (room : n ≤ length answers) where
    pass : (i : ℕ) → i ≤ n → AllWithin (λ a. is_miss a.verdict ≡ false) (take n answers) 0 i → (k : ℕ) → k < i → missed k ≡ false
    unfolding missed
    pass i h none k lt = rw (get_or-take n answers k (misses 0) (omega arith)) at (none k (misses 0) (omega arith) lt)

    pub last-none : AllWithin (λ a. is_miss a.verdict ≡ false) (take n answers) 0 (length (take n answers)) → last_for None ≡ last answers n
    unfolding last_from from
    last-none none =
        let e : n - n ≡ 0 = omega arith in
        sym (last_after n n (omega arith) (pass n (omega arith) (rw (length-take-le n answers room) at none)) ∙ rw e)

    pub last-first : (i : ℕ)
        → (i < length (take n answers)) × HoldsAt (λ a. is_miss a.verdict ≡ true) (take n answers) i × AllWithin (λ a. is_miss a.verdict ≡ false) (take n answers) 0 i
        → last_for (Some (i + 1)) ≡ last answers n
    unfolding last_from from
    last-first i (h, first, none) =
        let low : i < n = rw (length-take-le n answers room) at h in
        let e : n - i ≡ suc (n - (i + 1)) = omega arith in
        sym (last_after i n (omega arith) (pass i (omega arith) none) ∙ rw (e, add-sub_cancel i 1, rw (get_or-take n answers i (misses 0) low) at (first (misses 0))))
