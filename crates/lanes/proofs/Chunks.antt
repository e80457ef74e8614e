-- A slice as arrays of n: each is the part in its place. Assumes nothing.
use mathlib.Core.Path.{◌≡◌}
use mathlib.Core.List.{List, []}
use Prim.Native.Nat.{ℕ, zero, suc, ◌+◌, ◌*◌, ◌<◌}
use native.Mathlib.Omega.{arith}
use lib.ListN.{get_or, drop}
use lib.Seq.{drop-drop}
use Rattle.std.specs.Simd.{first_chunks}
use Rattle.laws.specs.Idioms.{part}

pub chunk-at : (n k i : ℕ) (s : List ℕ) → i < k → get_or (first_chunks n k s) i [] ≡ part s (n * i) n
chunk-at n zero i s h = absurd (omega arith)
chunk-at n (suc k) zero s h = let e : n * 0 ≡ 0 = omega arith in rw e
chunk-at n (suc k) (suc i) s h =
    let e : n * suc i ≡ n + n * i = omega arith in
    rw (chunk-at n k i (drop n s) (omega arith), e, drop-drop)
