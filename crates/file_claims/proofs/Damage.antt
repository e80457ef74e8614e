-- A file that was cut short, or in which one byte was altered, did not come whole. Assumes nothing.
use mathlib.Core.Path.{◌≡◌, sym, ap, ◌∙◌}
use mathlib.Core.Logic.{◌≢◌}
use mathlib.Core.List.{List, ◌++◌}
use Prim.Native.Nat.{ℕ, ◌-◌, ◌≤◌, ◌<◌}
use native.Mathlib.Decide.{dec_lt}
use native.Mathlib.Omega.{arith}
use lib.ListN.{length, take, get_or, set, length-set}
use lib.Seq.{length-take-le, get_or-take, take-set-le, take-set-lt, drop-set-lt, get_or-set_same}
use Rattle.rules.specs.File.{trailer}
use Rattle.laws.specs.Bytes.{Bytes}
use Rattle.laws.proofs.ByteLists.{bytes-set}
use Rattle.file_claims.proofs.ByteSums.{sum-set}
use Rattle.facts.proofs.Came.{Whole}
use Rattle.file_claims.proofs.Whole.{before, before_and_trailer}

-- the length of a whole file is told by bytes that a cut keeps
pub not_cut : {s : List ℕ} (n : ℕ) → n < length s → Whole s → Whole (take n s) → ⊥
not_cut {s} n h w c =
    let size = length-take-le n s (omega arith) in
    let long : 46 ≤ n = omega (arith, c.long) in
    let kept : (k : ℕ) → k < 46 → get_or (take n s) k 0 ≡ get_or s k 0 = λ k less. get_or-take n s k 0 (omega arith) in
    let same = rw (kept 0 (omega arith), kept 2 (omega arith), kept 3 (omega arith)) at c.sized in
    omega (arith, w.sized)

module _ {s : List ℕ} (i b : ℕ) (i-in : i < length s) (other : b ≢ get_or s i 0) (w : Whole s) (c : Whole (set s i b)) where
  same_length : length (set s i b) ≡ length s
  same_length = length-set s i b

  -- before the trailer: the first sum, which the trailer keeps, has changed
  not_before : i < length s - 12 → ⊥
  not_before h =
      let l = before s in
      let size : length l ≡ length s - 12 = length-take-le (length s - 12) s (omega arith) in
      let long = w.long in
      let kept = rw (same_length, drop-set-lt (length s - 8) s i b (omega arith), take-set-lt (length s - 12) s i b h) at c.summed in
      other (omega (arith, kept, w.summed, sum-set l i b (omega arith), get_or-take (length s - 12) s i 0 h))

  -- in the trailer: what stands before it is the same, and tells every byte of it
  not_in_trailer : length s - 12 ≤ i → Bytes s → b < 256 → ⊥
  not_in_trailer h bytes byte =
      let kept : before (set s i b) ≡ before s = rw same_length (take-set-le (length s - 12) s i b h) in
      let new = before_and_trailer (bytes-set i bytes byte) c in
      let old = before_and_trailer bytes w in
      let same : set s i b ≡ s = new ∙ ap (λ (l : List ℕ). l ++ trailer l) kept ∙ sym old in
      other (sym (get_or-set_same s i b 0 i-in) ∙ ap (λ (l : List ℕ). get_or l i 0) same)

  pub not_altered : Bytes s → b < 256 → ⊥
  not_altered bytes byte = go (dec_lt i (length s - 12))
    where
      go : Dec (i < length s - 12) → ⊥
      go (yes h) = not_before h
      go (no h) = not_in_trailer (omega arith) bytes byte
