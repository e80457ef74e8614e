-- A figure of a bus's row, as code tests it. Assumes nothing.
use Prim.Native.Nat.{ℕ, zero, suc, ◌≤◌}
use mathlib.Core.Path.{◌≡◌, refl}
use mathlib.Core.Bool.{not}
use native.Mathlib.Omega.{arith}
use lib.Dec.{eqb}
use borrow.Author.Tests.{le-leb, ne_eqb}
use Rattle.laws.specs.Idioms.{within}

-- two bytes hold no s above the highest
pub none_above : (x : ℕ) → x ≤ 65535 → eqb x 0 ≡ not (within 1 65535 x)
none_above zero h = refl
none_above (suc x) h = rw (le-leb 1 (suc x) (omega arith), le-leb (suc x) 65535 h, ne_eqb (suc x) 0 (λ e. omega arith))
