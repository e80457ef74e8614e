-- A number by its bytes, lowest first, as the library's methods read it out of a chunk. Assumes nothing.
use mathlib.Core.Path.{◌≡◌, ◌∙◌}
use mathlib.Core.List.{List}
use Prim.Native.Nat.{ℕ, zero, suc, ◌+◌, ◌-◌, ◌^◌, ◌≤◌}
use native.Mathlib.Omega.{arith}
use native.Mathlib.Nat.{mul_comm, zero-add}
use native.Mathlib.Numerals.{add-one}
use lib.ListN.{length, length-drop, take, drop, get_or}
use lib.Seq.{take_all}
use Rattle.std.specs.Int.{sum_through, byte_worth}
use Rattle.std.specs.Array.{IsFirstChunk}
use Rattle.laws.specs.Idioms.{number_in, part}
use Rattle.laws.proofs.Parts.{number-part, number-one, part_length}

front-number : (s : List ℕ) (n : ℕ) → suc n ≤ length s → sum_through (λ i. byte_worth i (get_or s i 0)) n ≡ number_in (part s 0 (suc n))
front-number s zero h = omega (arith, number-one s 0 (omega arith))
front-number s (suc n) h =
    let whole = number-part s 0 (suc n) 1 (omega arith) in
    let last : number_in (part s (0 + suc n) 1) ≡ get_or s (suc n) 0 = rw zero-add (number-one s (suc n) (omega arith)) in
    omega (arith, front-number s n (omega arith), rw (add-one (suc n), last, mul_comm (256 ^ suc n) (get_or s (suc n) 0)) at whole)

pub le-number : (s : List ℕ) (n : ℕ) → length s ≡ suc n → sum_through (λ i. byte_worth i (get_or s i 0)) n ≡ number_in s
le-number s n e = front-number s n (omega arith) ∙ rw (take_all (suc n) s (omega arith))

-- s with its first `at` bytes off, as a slice to its end, and the chunk that this begins with
pub chunk-number : (s chunk : List ℕ) (at n : ℕ) → at + suc n ≤ length s → IsFirstChunk (take (length s - at) (drop at s)) chunk (suc n)
    → sum_through (λ i. byte_worth i (get_or chunk i 0)) n ≡ number_in (part s at (suc n))
chunk-number s chunk at n h first =
    let whole : take (length s - at) (drop at s) ≡ drop at s = take_all (length s - at) (drop at s) (rw length-drop (omega arith)) in
    let same : chunk ≡ part s at (suc n) = rw whole at first.same in
    rw same (le-number (part s at (suc n)) n (part_length s at (suc n) h))
