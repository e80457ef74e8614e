-- The two sums of a trailer: one byte stored changes the first by what the byte changed, and both fit 4 bytes where the file is not
-- longer than 4,000 bytes. Assumes nothing.
use mathlib.Core.Path.{◌≡◌}
use mathlib.Core.List.{List, [], ◌∷◌}
use Prim.Native.Nat.{ℕ, zero, suc, ◌+◌, ◌*◌, ◌^◌, ◌≤◌, ◌<◌}
use native.Mathlib.Omega.{arith}
use lib.ListN.{length, get_or, set}
use Rattle.rules.specs.File.{sum_of, running_from, running_sum}
use Rattle.laws.specs.Bytes.{Bytes, none, more}

pub sum-set : (l : List ℕ) (i b : ℕ) → i < length l → sum_of (set l i b) + get_or l i 0 ≡ sum_of l + b
sum-set [] i b h = absurd (omega arith)
sum-set (x ∷ l) zero b h = omega arith
sum-set (x ∷ l) (suc i) b h = omega (arith, sum-set l i b (omega arith))

sum-high : {l : List ℕ} → Bytes l → sum_of l ≤ 255 * length l
sum-high none = omega arith
sum-high (more h r) = omega (arith, sum-high r)

-- no running sum is above what all bytes can come to
running-high : (m a : ℕ) {l : List ℕ} → Bytes l → a + 255 * length l ≤ m → sum_of (running_from a l) ≤ m * length l
running-high m a none h = omega arith
running-high m a (more {b = b} h r) high = omega (arith, running-high m (a + b) r (omega arith))

module _ {l : List ℕ} (b : Bytes l) (short : length l ≤ 4000) where
  pub sum_fits : sum_of l < 256 ^ 4
  sum_fits = omega (arith, sum-high b)

  pub running-fits : running_sum l < 256 ^ 4
  unfolding running_sum
  running-fits = omega (arith, running-high 1020000 0 b (omega arith))
