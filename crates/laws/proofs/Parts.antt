-- Numbers that stand in a part of a list: a part in two, a part by its bytes, and one byte more of a number stored. Assumes nothing.
use mathlib.Core.Path.{◌≡◌, refl}
use mathlib.Core.List.{List, [], ◌∷◌, ◌++◌, map}
use Prim.Native.Nat.{ℕ, zero, suc, ◌+◌, ◌*◌, ◌-◌, ◌/◌, ◌%◌, ◌^◌, ◌≤◌, ◌<◌}
use native.Mathlib.Omega.{arith}
use native.Mathlib.Nat.{pow-suc, add-zero}
use lib.ListN.{length, length-drop, drop, get_or, set}
use lib.Seq.{sets, take-add, drop-drop, drop-cons, length-take-le}
use Rattle.laws.specs.Idioms.{from, below, number_in, bytes_of, part}

number_append : (xs ys : List ℕ) → number_in (xs ++ ys) ≡ number_in xs + 256 ^ length xs * number_in ys
unfolding number_in
number_append [] ys = omega arith
number_append (x ∷ xs) ys = rw pow-suc (omega (arith, number_append xs ys))

module _ (s : List ℕ) (at : ℕ) where
  pub part_length : (n : ℕ) → at + n ≤ length s → length (part s at n) ≡ n
  part_length n h = length-take-le n (drop at s) (rw length-drop (omega arith))

  pub number-part : (m n : ℕ) → at + m ≤ length s → number_in (part s at (m + n)) ≡ number_in (part s at m) + 256 ^ m * number_in (part s (at + m) n)
  number-part m n h = rw (take-add, drop-drop, number_append, part_length m h)

  pub number-one : at < length s → number_in (part s at 1) ≡ get_or s at 0
  unfolding number_in
  number-one h = rw (drop-cons s at 0 h) (omega arith)

  -- a part by its bytes
  part-from : (a n : ℕ) → at + (a + n) ≤ length s → part s (at + a) n ≡ map (λ i. get_or s (at + i) 0) (from a n)
  unfolding from
  part-from a zero h = refl
  part-from a (suc n) h =
      let e : suc (at + a) ≡ at + (a + 1) = omega arith in
      rw (drop-cons s (at + a) 0 (omega arith), e, part-from (a + 1) n (omega arith))

  pub part-eight : at + 8 ≤ length s → part s at 8 ≡ map (λ i. get_or s (at + i) 0) (below 8)
  part-eight h = rw add-zero at (part-from 0 8 h)

pub byte_next : (l : List ℕ) (at v n i : ℕ) → i < n
    → sets l (at + i) (bytes_of (n - i) v) ≡ sets (set l (at + i) (v % 256)) (at + (i + 1)) (bytes_of (n - (i + 1)) (v / 256))
unfolding bytes_of
byte_next l at v n i h =
    let e : n - i ≡ suc (n - (i + 1)) = omega arith in
    let f : at + (i + 1) ≡ suc (at + i) = omega arith in
    rw (e, f)
