-- How many numbers pass a test before the first that does not: all those pass, and the next does not; and as a loop counts them. Assumes nothing.
use mathlib.Core.Path.{◌≡◌, refl, sym, ◌∙◌}
use mathlib.Core.Bool.{Bool, true, false, cond}
use Prim.Native.Nat.{ℕ, zero, suc, ◌+◌, ◌-◌, ◌≤◌, ◌<◌}
use native.Mathlib.Nat.{sub-zero}
use native.Mathlib.Omega.{arith}
use lib.Dec.{ltb}
use borrow.Author.Tests.{ltb-true, ltb-false}
use Rattle.laws.proofs.Tests.{clash}
use Rattle.rules.specs.Salvage.{leading}

-- as a loop counts numbers 1 to m: i of them have passed
abbrev pub Counted : (ℕ → Bool) → ℕ → ℕ → Type 0
Counted test m i = leading test 1 m ≡ i + leading test (i + 1) (m - i)

module _ (test : ℕ → Bool) (m : ℕ) where
  pub counted_none : Counted test m 0
  counted_none = rw sub-zero (omega arith)

  module _ (i : ℕ) (counted : Counted test m i) where
    pub counted_next : i < m → test (i + 1) ≡ true → Counted test m (i + 1)
    unfolding leading
    counted_next h t =
        let e : m - i ≡ suc (m - (i + 1)) = omega arith in
        counted ∙ rw (e, leading, t) (omega arith)

    pub counted_stop : i < m → test (i + 1) ≡ false → i ≡ leading test 1 m
    unfolding leading
    counted_stop h t =
        let e : m - i ≡ suc (m - (i + 1)) = omega arith in
        sym (counted ∙ rw (e, leading, t) (omega arith))

    pub counted-all : i ≡ m → i ≡ leading test 1 m
    unfolding leading
    counted-all h = let e : m - i ≡ 0 = omega arith in sym (counted ∙ rw (e, leading) (omega arith))

module _ (test : ℕ → Bool) where
  pub leading-most : (k m : ℕ) → leading test k m ≤ m
  unfolding leading
  leading-most k zero = omega arith
  leading-most k (suc m) = go (test k) (leading-most (k + 1) m)
    where
      go : (b : Bool) {n : ℕ} → n ≤ m → cond b (1 + n) 0 ≤ suc m
      go true h = omega arith
      go false h = omega arith

  pub leading_pass : (k m i : ℕ) → i < leading test k m → test (k + i) ≡ true
  unfolding leading
  leading_pass k zero i h = absurd (omega arith)
  leading_pass k (suc m) i h = go (test k) refl (leading_pass (k + 1) m) i h
    where
      go : (b : Bool) → test k ≡ b → ((i : ℕ) → i < leading test (k + 1) m → test (k + 1 + i) ≡ true)
          → (i : ℕ) → i < cond b (1 + leading test (k + 1) m) 0 → test (k + i) ≡ true
      go true e rest zero h = let same : k + 0 ≡ k = omega arith in rw same e
      go true e rest (suc i) h = let next : k + suc i ≡ k + 1 + i = omega arith in rw next (rest i (omega arith))
      go false e rest i h = absurd (omega arith)

  pub leading_stop : (k m : ℕ) → leading test k m < m → test (k + leading test k m) ≡ false
  unfolding leading
  leading_stop k zero h = absurd (omega arith)
  leading_stop k (suc m) h = go (test k) refl (leading_stop (k + 1) m) h
    where
      go : (b : Bool) → test k ≡ b → (leading test (k + 1) m < m → test (k + 1 + leading test (k + 1) m) ≡ false)
          → cond b (1 + leading test (k + 1) m) 0 < suc m → test (k + cond b (1 + leading test (k + 1) m) 0) ≡ false
      go true e rest h = let next : k + (1 + leading test (k + 1) m) ≡ k + 1 + leading test (k + 1) m = omega arith in rw next (rest (omega arith))
      go false e rest h = let same : k + 0 ≡ k = omega arith in rw same e

  -- no other number has both
  pub leading_is : (m n : ℕ) → n ≤ m → ((i : ℕ) → i < n → test (1 + i) ≡ true) → (n < m → test (1 + n) ≡ false) → leading test 1 m ≡ n
  leading_is m n fits pass stop = go (ltb (leading test 1 m) n) (ltb n (leading test 1 m)) refl refl
    where
      go : (b c : Bool) → ltb (leading test 1 m) n ≡ b → ltb n (leading test 1 m) ≡ c → leading test 1 m ≡ n
      go true c h e =
          let fewer = ltb-true (leading test 1 m) n h in
          absurd (clash (sym (pass (leading test 1 m) fewer) ∙ leading_stop 1 m (omega arith)))
      go false true e h =
          let more = ltb-true n (leading test 1 m) h in
          absurd (clash (sym (leading_pass 1 m n more) ∙ stop (omega (arith, leading-most 1 m))))
      go false false e h = omega (arith, ltb-false (leading test 1 m) n e, ltb-false n (leading test 1 m) h)
