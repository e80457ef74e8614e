-- Lists of bytes: what is known of each place is known of the list, what is made of them by joining, cutting and one store is bytes again, and k bytes are known by their number.
-- Assumes nothing.
use mathlib.Core.Path.{◌≡◌}
use mathlib.Core.List.{List, [], ◌∷◌, ◌++◌, map}
use Prim.Native.Nat.{ℕ, zero, suc, ◌+◌, ◌≤◌, ◌<◌}
use lib.ListN.{length, take, drop, get_or, set}
use lib.Seq.{take-add, drop-drop}
use Rattle.laws.specs.Idioms.{joined, number_in, bytes_of, part}
use Rattle.laws.specs.Bytes.{Bytes, none, more}
use Rattle.laws.proofs.Bytes.{bytes-number}
use Rattle.laws.proofs.Parts.{part_length}

pub bytes_by_place : (s : List ℕ) → ((i : ℕ) → get_or s i 0 < 256) → Bytes s
bytes_by_place [] byte = none
bytes_by_place (b ∷ s) byte = more (byte 0) (bytes_by_place s (λ i. byte (suc i)))

pub bytes-append : {l m : List ℕ} → Bytes l → Bytes m → Bytes (l ++ m)
bytes-append none b = b
bytes-append (more h r) b = more h (bytes-append r b)

pub bytes_take : (n : ℕ) {l : List ℕ} → Bytes l → Bytes (take n l)
bytes_take zero b = none
bytes_take (suc n) none = none
bytes_take (suc n) (more h r) = more h (bytes_take n r)

pub bytes_drop : (n : ℕ) {l : List ℕ} → Bytes l → Bytes (drop n l)
bytes_drop zero b = b
bytes_drop (suc n) none = none
bytes_drop (suc n) (more h r) = bytes_drop n r

pub bytes-set : {l : List ℕ} (i : ℕ) {b : ℕ} → Bytes l → b < 256 → Bytes (set l i b)
bytes-set i none h = none
bytes-set zero (more o r) h = more h r
bytes-set (suc i) (more o r) h = more o (bytes-set i r h)

pub bytes-joined : {A : Type 0} (f : A → List ℕ) → ((x : A) → Bytes (f x)) → (l : List A) → Bytes (joined (map f l))
bytes-joined f h [] = none
bytes-joined f h (x ∷ l) = bytes-append (h x) (bytes-joined f h l)

-- k bytes are those of their number
pub known_by_number : (k : ℕ) (l : List ℕ) → Bytes l → length l ≡ k → bytes_of k (number_in l) ≡ l
known_by_number k l b e = rw e at (bytes-number b)

module _ (s : List ℕ) (at : ℕ) where
  -- two parts, one after the other
  pub part_join : (j k : ℕ) → part s at j ++ part s (at + j) k ≡ part s at (j + k)
  part_join j k = rw (take-add j k (drop at s), drop-drop j at s)

  pub part_known : (k : ℕ) → Bytes s → at + k ≤ length s → bytes_of k (number_in (part s at k)) ≡ part s at k
  part_known k b h = known_by_number k (part s at k) (bytes_take k (bytes_drop at b)) (part_length s at k h)
