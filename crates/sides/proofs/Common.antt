-- Two sets have a partition in common exactly where the bits that both have are not all 0. Assumes nothing.
use mathlib.Core.Path.{◌≡◌, refl}
use mathlib.Core.Bool.{not, ◌&&◌, ◌||◌}
use Prim.Native.Nat.{ℕ, zero, suc, ◌+◌, ◌*◌, ◌/◌, ◌%◌, ◌^◌, ◌<◌, min}
use native.Mathlib.Nat.{div-one, pow-suc, div-div-eq-div-mul}
use native.Mathlib.Numerals.{add-one}
use native.Mathlib.Omega.{arith}
use borrow.Author.Tests.{ne_eqb}
use lib.Dec.{eqb}
use lib.Bits.{bit_and, and_step}
use Rattle.laws.specs.Idioms.{some, from}
use Rattle.rules.specs.Cores.{bit, share}

even : (m : ℕ) → eqb (m * 2 + 0) 0 ≡ eqb m 0
even zero = refl
even (suc m) = rw (ne_eqb (suc m * 2 + 0) 0 (λ e. omega arith), ne_eqb (suc m) 0 (λ e. omega arith))

-- the lowest bits, and the rest
head : (u v m : ℕ) → u < 2 → v < 2 → not (eqb (m * 2 + min u v) 0) ≡ (eqb u 1 && eqb v 1) || not (eqb m 0)
head zero zero m h k = rw even
head zero (suc zero) m h k = rw even
head (suc zero) zero m h k = rw even
head (suc zero) (suc zero) m h k = rw (ne_eqb (m * 2 + 1) 0 (λ e. omega arith))
head zero (suc (suc v)) m h k = absurd (omega arith)
head (suc zero) (suc (suc v)) m h k = absurd (omega arith)
head (suc (suc u)) v m h k = absurd (omega arith)

module _ (a b : ℕ) where
  -- the partitions from k on
  common-from : (n k : ℕ) → a / 2 ^ k < 2 ^ n → not (eqb (bit_and (a / 2 ^ k) (b / 2 ^ k)) 0) ≡ some (λ j. bit a j && bit b j) (from k n)
  unfolding from
  common-from zero k h = let e : a / 2 ^ k ≡ 0 = omega arith in rw e
  common-from (suc n) k h =
      let p : a / 2 ^ k < 2 ^ n * 2 = rw (← pow-suc 2 n) h in
      let next : (x : ℕ) → x / 2 ^ k / 2 ≡ x / 2 ^ (k + 1) = λ x. rw (add-one, pow-suc, div-div-eq-div-mul) in
      let q : a / 2 ^ (k + 1) < 2 ^ n = rw (← next a) (omega arith) in
      rw (and_step (a / 2 ^ k) (b / 2 ^ k), head (a / 2 ^ k % 2) (b / 2 ^ k % 2) (bit_and (a / 2 ^ k / 2) (b / 2 ^ k / 2)) (omega arith) (omega arith), next a, next b, common-from n (k + 1) q)

  pub common : a < 2 ^ 16 → not (eqb (bit_and a b) 0) ≡ share a b
  unfolding share
  common h = rw (div-one a, div-one b) at (common-from 16 0 (rw div-one h))
