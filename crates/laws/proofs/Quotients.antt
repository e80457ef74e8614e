-- What makes rounding up, t/T as `(t + (T - 1)) / T`, a count: it never falls as t grows, and is at least 1 from time 1 on. Assumes nothing.
use Prim.Native.Nat.{ℕ, zero, suc, ◌+◌, ◌-◌, ◌/◌, ◌≤◌, zero-le, suc-le-suc}
use native.Mathlib.Nat.{le_trans, div-zero, le-div_iff_mul-le, div-mul-le_self}
use native.Mathlib.Omega.{arith}

div_rises : {a b : ℕ} (k : ℕ) → a ≤ b → a / k ≤ b / k
div_rises {a} {b} zero h = omega (arith, div-zero a, div-zero b)
div_rises {a} (suc k) h = (le-div_iff_mul-le (suc-le-suc zero-le)).1 (le_trans (div-mul-le_self a (suc k)) h)

pub ceil-rises : {t u : ℕ} (T : ℕ) → t ≤ u → (t + (T - 1)) / T ≤ (u + (T - 1)) / T
ceil-rises T h = div_rises T (omega arith)

pub ceil_pos : (t T : ℕ) → 1 ≤ t → 1 ≤ T → 1 ≤ (t + (T - 1)) / T
ceil_pos t T h p = (le-div_iff_mul-le p).1 (omega arith)
