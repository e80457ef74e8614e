-- A part of lent bytes, written and given back, is a run of stores. Assumes nothing.
use mathlib.Core.Path.{◌≡◌}
use mathlib.Core.List.{List, append_assoc}
use Prim.Native.Nat.{ℕ, ◌+◌, ◌-◌, ◌≤◌}
use native.Mathlib.Omega.{arith}
use borrow.Rule.Slice.PartMut.{put_mid}
use lib.ListN.{length}
use lib.Seq.{sets, sets-eq, drop-drop}

pub part-put : (out bytes : List ℕ) (at n : ℕ) → at + n ≤ length out → length bytes ≡ n → put_mid at (at + n - at) out bytes ≡ sets out at bytes
part-put out bytes at n room long =
    let e : at + n - at ≡ n = omega arith in
    let end : at + length bytes ≡ at + n = omega arith in
    rw (e, drop-drop, sets-eq bytes out at (omega arith), end, append_assoc)
