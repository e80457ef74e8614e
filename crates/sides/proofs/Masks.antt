-- What the bits of a mask say: how many cores pass, which, those of two masks, and whether none does. Assumes nothing.
use mathlib.Core.Path.{◌≡◌, refl}
use mathlib.Core.Bool.{Bool, true, false, cond, ◌&&◌}
use mathlib.Core.List.{List, ◌∷◌}
use Prim.Native.Nat.{ℕ, zero, suc, ◌+◌, ◌*◌, ◌/◌, ◌-◌, ◌%◌, ◌^◌, ◌≤◌, ◌<◌, min}
use native.Mathlib.Nat.{add-zero, div-one, pow-suc, pow-succ', div-div-eq-div-mul}
use native.Mathlib.Omega.{arith}
use borrow.Author.Tests.{ne_eqb}
use lib.Dec.{eqb}
use lib.Pow.{pow_mono}
use lib.Bits.{bit_and, and_step}
use lib.Count.{ones, ones_step}
use lib.ListN.{length}
use Rattle.laws.specs.Idioms.{those, is_empty, from}
use Rattle.sides.specs.Masks.{as_bit, mask_from}

-- ---- one bit more, below the others

pub bit_high : (b : Bool) → as_bit b ≤ 1
bit_high true = omega arith
bit_high false = omega arith

low : (b : Bool) (m : ℕ) → (as_bit b + 2 * m) % 2 ≡ as_bit b
low b m = omega (arith, bit_high b)

high : (b : Bool) (m : ℕ) → (as_bit b + 2 * m) / 2 ≡ m
high b m = omega (arith, bit_high b)

below : (b : Bool) (m k : ℕ) → m < k → as_bit b + 2 * m < k * 2
below b m k h = omega (arith, bit_high b)

both : (b c : Bool) (m : ℕ) → m * 2 + min (as_bit b) (as_bit c) ≡ as_bit (b && c) + 2 * m
both true true m = omega arith
both true false m = omega arith
both false c m = omega arith

module _ (q : ℕ) (l : List ℕ) where
  pub counted : (b : Bool) → as_bit b + length l ≡ length (cond b (q ∷ l) l)
  counted true = omega arith
  counted false = omega arith

  none : (b : Bool) (m : ℕ) → eqb m 0 ≡ is_empty l → eqb (as_bit b + 2 * m) 0 ≡ is_empty (cond b (q ∷ l) l)
  none true m h = ne_eqb (1 + 2 * m) 0 (λ e. omega arith)
  none false zero h = h
  none false (suc m) h = rw (ne_eqb (0 + 2 * suc m) 0 (λ e. omega arith)) (rw (ne_eqb (suc m) 0 (λ e. omega arith)) at h)

-- ---- all bits

module _ (test : ℕ → Bool) where
  -- what a loop that comes down to core q adds
  pub mask_step : (q n : ℕ) → 1 ≤ q → q ≤ n → mask_from test (q - 1 + 1) (n - (q - 1)) ≡ mask_from test (q + 1) (n - q) * 2 + as_bit (test q)
  unfolding mask_from
  mask_step q n low high =
      let a : q - 1 + 1 ≡ q = omega arith in
      let left : n - (q - 1) ≡ suc (n - q) = omega arith in
      rw (a, left, mask_from) (omega arith)

  mask_below : (a n : ℕ) → mask_from test a n < 2 ^ n
  unfolding mask_from
  mask_below a zero = omega arith
  mask_below a (suc n) = rw (pow-suc 2 n) (below (test a) _ _ (mask_below (a + 1) n))

  -- seven bits and one more are at most eight
  pub mask-room : (a n : ℕ) → n ≤ 7 → mask_from test a n * 2 + 1 < 256
  mask-room a n h = omega (arith, mask_below a n, pow_mono {j = 7} h)

  pub mask_ones : (a n : ℕ) → ones (mask_from test a n) ≡ length (those test (from a n))
  unfolding mask_from from ones
  mask_ones a zero = refl
  mask_ones a (suc n) =
      let m = mask_from test (a + 1) n in
      rw (ones_step (as_bit (test a) + 2 * m), low (test a) m, high (test a) m, mask_ones (a + 1) n) (counted a (those test (from (a + 1) n)) (test a))

  pub mask-none : (a n : ℕ) → eqb (mask_from test a n) 0 ≡ is_empty (those test (from a n))
  unfolding mask_from from
  mask-none a zero = refl
  mask-none a (suc n) = none a (those test (from (a + 1) n)) (test a) (mask_from test (a + 1) n) (mask-none (a + 1) n)

  pub mask-bit : (k a n : ℕ) → k < n → mask_from test a n / 2 ^ k % 2 ≡ as_bit (test (a + k))
  unfolding mask_from
  mask-bit k a zero h = absurd (omega arith)
  mask-bit zero a (suc n) h = rw (div-one, low (test a) (mask_from test (a + 1) n), add-zero)
  mask-bit (suc k) a (suc n) h =
      let e : a + suc k ≡ a + 1 + k = omega arith in
      rw (pow-succ', ← div-div-eq-div-mul, high (test a) (mask_from test (a + 1) n), e) (mask-bit k (a + 1) n (omega arith))

pub mask_and : (f g : ℕ → Bool) (a n : ℕ) → bit_and (mask_from f a n) (mask_from g a n) ≡ mask_from (λ k. f k && g k) a n
unfolding mask_from
mask_and f g a zero = refl
mask_and f g a (suc n) =
    let u = mask_from f (a + 1) n in
    let v = mask_from g (a + 1) n in
    rw (and_step (as_bit (f a) + 2 * u) (as_bit (g a) + 2 * v), low (f a) u, low (g a) v, high (f a) u, high (g a) v, mask_and f g (a + 1) n)
    (both (f a) (g a) (mask_from (λ k. f k && g k) (a + 1) n))
