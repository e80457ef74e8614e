-- What one byte more adds to a file's two sums, and the sums of bytes after others. Assumes nothing.
use mathlib.Core.Path.{◌≡◌, sym, ap}
use mathlib.Core.List.{List, [], ◌∷◌, ◌++◌}
use Prim.Native.Nat.{ℕ, zero, suc, ◌+◌, ◌*◌, ◌-◌, ◌<◌, ◌≤◌}
use native.Mathlib.Omega.{arith}
use native.Mathlib.Nat.{add-zero, add_assoc, suc-mul, mul-add}
use native.Mathlib.Numerals.{add-one}
use lib.ListN.{length, take, drop, get_or}
use lib.Seq.{take-suc, take-add, take-length}
use Rattle.rules.specs.File.{sum_of, running_from, running_sum}
use Rattle.lanes.specs.Sums.{sums_of, joined_sums}
use Rattle.laws.proofs.Sums.{sum-append}
use Rattle.laws.proofs.Parts.{part_length}

-- running sums from a on: a more after each byte
running-from : (a : ℕ) (l : List ℕ) → sum_of (running_from a l) ≡ length l * a + running_sum l
unfolding running_sum
running-from a [] = omega arith
running-from a (b ∷ l) = rw suc-mul (omega (arith, running-from (a + b) l, running-from (0 + b) l, mul-add (length l) a b, mul-add (length l) 0 b))

running-append : (a : ℕ) (l m : List ℕ) → sum_of (running_from a (l ++ m)) ≡ sum_of (running_from a l) + sum_of (running_from (a + sum_of l) m)
running-append a [] m = rw add-zero (omega arith)
running-append a (b ∷ l) m = rw (← add_assoc a b (sum_of l)) (omega (arith, running-append (a + b) l m))

running-joined : (l m : List ℕ) → running_sum (l ++ m) ≡ running_sum l + length m * sum_of l + running_sum m
unfolding running_sum
running-joined l m = omega (arith, running-append 0 l m, running-from (0 + sum_of l) m)

module _ (s : List ℕ) where
  -- one byte more, with the next place named
  pub sum-next : (i j : ℕ) → j ≡ i + 1 → i < length s → sum_of (take j s) ≡ sum_of (take i s) + get_or s i 0
  sum-next i j e h = rw (e, add-one, take-suc s i 0 h, sum-append) (omega arith)

  pub running-next : (i j : ℕ) → j ≡ i + 1 → i < length s → running_sum (take j s) ≡ running_sum (take i s) + sum_of (take j s)
  unfolding running_sum
  running-next i j e h = rw (e, add-one, take-suc s i 0 h, sum-append) (omega (arith, running-joined (take i s) (get_or s i 0 ∷ [])))

-- both have room in 64 bits
module _ (s : List ℕ) (byte : (i : ℕ) → get_or s i 0 < 256) where
  sum-limit : (n : ℕ) → n ≤ length s → sum_of (take n s) ≤ 255 * n
  sum-limit zero h = omega arith
  sum-limit (suc n) h = omega (arith, sum-next s n (suc n) (omega arith) (omega arith), sum-limit n (omega arith), byte n)

  running-limit : (n : ℕ) → n ≤ length s → n ≤ 65536 → running_sum (take n s) ≤ 16777216 * n
  unfolding running_sum
  running-limit zero h k = omega arith
  running-limit (suc n) h k =
      omega (arith, running-next s n (suc n) (omega arith) (omega arith), running-limit n (omega arith) (omega arith), sum-limit (suc n) h)

-- the sums of bytes by those of the first of them and those of the others; and their room
module _ (l m : List ℕ) where
  pub sums-append : joined_sums (sums_of l) (sums_of m) (length m) ≡ sums_of (l ++ m)
  sums-append = rw (sum-append (λ b. b) l m, running-joined l m)

  pub append-fits : ((i : ℕ) → get_or (l ++ m) i 0 < 256) → length (l ++ m) ≤ 65536
      → (sum_of l + sum_of m < 18446744073709551616) × (running_sum l + length m * sum_of l + running_sum m < 18446744073709551616)
  append-fits byte h =
      let s = l ++ m in
      let n = length s in
      let low : sum_of s ≤ 255 * n = rw take-length at (sum-limit s byte n (omega arith)) in
      let high : running_sum s ≤ 16777216 * n = rw take-length at (running-limit s byte n (omega arith) h) in
      (omega (arith, ap (λ t. t.sum) sums-append), omega (arith, ap (λ t. t.running) sums-append))

-- the sums of the bytes before e by those before an earlier place and those of the part between
pub part-joined : (s : List ℕ) (at e : ℕ) → at ≤ e → e ≤ length s → joined_sums (sums_of (take at s)) (sums_of (take (e - at) (drop at s))) (e - at) ≡ sums_of (take e s)
part-joined s at e up room =
    let there : at + (e - at) ≡ e = omega arith in
    let between : take at s ++ take (e - at) (drop at s) ≡ take e s = rw there at (sym (take-add at (e - at) s)) in
    rw (part_length s at (e - at) (omega arith), between) at (sums-append (take at s) (take (e - at) (drop at s)))
