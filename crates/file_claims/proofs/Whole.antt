-- A file that came whole: what refusals 1 to 4 leave of a file, and that such a file is what stands before its trailer and the
-- trailer of that. Assumes nothing.
use mathlib.Core.Path.{◌≡◌, refl, sym}
use mathlib.Core.List.{List, ◌++◌}
use Prim.Native.Nat.{ℕ, ◌+◌, ◌-◌, ◌^◌, ◌≤◌, ◌<◌}
use native.Mathlib.Omega.{arith}
use lib.ListN.{length, take, drop, take-append-drop, length-append, length-drop}
use lib.Seq.{take_all, take_at, length-take-le, drop-append-add}
use Rattle.rules.specs.File.{file_length, cores_in, tasks_in, form_in, sum_of, running_sum, trailer}
use Rattle.laws.specs.Idioms.{number_in, bytes_of, part}
use Rattle.laws.specs.Bytes.{Bytes}
use Rattle.laws.proofs.Bytes.{number-bytes}
use Rattle.laws.proofs.ByteLists.{part_join, part_known}
use Rattle.facts.proofs.Came.{Whole}
use Rattle.file_claims.proofs.ByteSums.{sum_fits, running-fits}

-- what stands before the trailer
abbrev pub before : List ℕ → List ℕ
before s = take (length s - 12) s

module _ {s : List ℕ} (b : Bytes s) (w : Whole s) where
  stored : (at v : ℕ) → at + 4 ≤ length s → number_in (part s at 4) ≡ v → bytes_of 4 v ≡ part s at 4
  stored at v fits e = rw e at (part_known s at 4 b fits)

  trailer_is : trailer (before s) ≡ drop (length s - 12) s
  unfolding trailer
  trailer_is =
      let m = length s - 12 in
      let long = w.long in
      let size : length (before s) ≡ m = length-take-le m s (omega arith) in
      let eight : length s - 8 ≡ m + 4 = omega arith in
      let four : length s - 4 ≡ m + 8 = omega arith in
      let count = stored m m (omega arith) w.counted in
      let sum = stored (length s - 8) (sum_of (before s)) (omega arith) w.summed in
      let resum = stored (length s - 4) (running_sum (before s)) (omega arith) w.resummed in
      rw (size, count, sum, resum, eight, four, part_join s m 4 4, part_join s m 8 4)
      (take_all 12 (drop m s) (rw (length-drop m s) (omega arith)))

  pub before_and_trailer : s ≡ before s ++ trailer (before s)
  before_and_trailer = rw trailer_is (sym (take-append-drop (length s - 12) s))

pub trailer-length : (b : List ℕ) → length (trailer b) ≡ 12
unfolding trailer bytes_of
trailer-length b = refl

-- bytes that are followed by their trailer
abbrev trailed : List ℕ → List ℕ
trailed b = b ++ trailer b

-- they came whole, where the header tells their length and the sums fit
module _ {b : List ℕ} (are : Bytes b) (long : 34 ≤ length b) (short : length b ≤ 4000) where
  size : length (trailed b) ≡ length b + 12
  size = rw (length-append b (trailer b), trailer-length b)

  same-before : before (trailed b) ≡ b
  same-before = take_at b (trailer b) (length (trailed b) - 12) (omega (arith, size))

  trailer-number : (k v : ℕ) → k ≤ 12 → part (trailer b) k 4 ≡ bytes_of 4 v → v < 256 ^ 4 → number_in (part (trailed b) (length (trailed b) - (12 - k)) 4) ≡ v
  trailer-number k v h e fits =
      let at : length (trailed b) - (12 - k) ≡ length b + k = omega (arith, size) in
      rw (at, drop-append-add b (trailer b) k, e) (number-bytes 4 v fits)

  count_is : part (trailer b) 0 4 ≡ bytes_of 4 (length b)
  unfolding trailer bytes_of
  count_is = refl

  sum_is : part (trailer b) 4 4 ≡ bytes_of 4 (sum_of b)
  unfolding trailer bytes_of
  sum_is = refl

  resum_is : part (trailer b) 8 4 ≡ bytes_of 4 (running_sum b)
  unfolding trailer bytes_of
  resum_is = refl

  pub trailed-whole : length (trailed b) ≡ file_length (form_in (trailed b)) (cores_in (trailed b)) (tasks_in (trailed b)) → Whole (trailed b)
  trailed-whole sized = record {
    long = omega (arith, size);
    sized = sized;
    counted = omega (arith, size, trailer-number 0 (length b) (omega arith) count_is (omega arith));
    summed = rw same-before (trailer-number 4 (sum_of b) (omega arith) sum_is (sum_fits are short));
    resummed = rw same-before (trailer-number 8 (running_sum b) (omega arith) resum_is (running-fits are short));
  }
