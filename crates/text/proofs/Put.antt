-- Texts that are put one after the other are one text; and a text that fills a part of a buffer is put there. Assumes nothing.
use mathlib.Core.Path.{◌≡◌, refl, ◌∙◌}
use mathlib.Core.List.{List, [], ◌∷◌, ◌++◌, append_assoc}
use Prim.Native.Nat.{ℕ, ◌+◌, ◌-◌, ◌<◌, ◌≤◌}
use native.Mathlib.Omega.{arith}
use native.Mathlib.Nat.{zero-add}
use borrow.Rule.Slice.PartMut.{put_mid}
use lib.ListN.{length, take, set, length-append}
use lib.Seq.{sets-eq, drop-drop, take-append_seam}
use borrow.Author.Tests.{le-leb, lt-leb}
use Rattle.laws.proofs.Runs.{sets-after}
use Rattle.text.specs.Put.{Put, Given}

pub nothing : (l : List ℕ) (at : ℕ) → Put l at [] at l
nothing l at = record { ends = omega arith; bytes = refl }

-- one byte more
pub stored : (l : List ℕ) (at x : ℕ) → Put l at (x ∷ []) (at + 1) (set l at x)
stored l at x = record { ends = refl; bytes = refl }

infixl 5 ◌then◌
pub ◌then◌ : {l m r : List ℕ} {at mid next : ℕ} {v w : List ℕ} → Put l at v mid m → Put m mid w next r → Put l at (v ++ w) next r
◌then◌ {l} {m} {r} {at} {mid} {next} {v} {w} p q = record {
  ends = omega (arith, p.ends, q.ends, length-append v w);
  bytes = rw (q.bytes, p.bytes) (sets-after v w l at mid p.ends);
}

-- a part that is written whole and given back
pub part-put : (l : List ℕ) (at : ℕ) (w : List ℕ) → at + length w ≤ length l → Put l at w (at + length w) (put_mid at (at + length w - at) l w)
part-put l at w room =
    let e : at + length w - at ≡ length w = omega arith in
    record { ends = refl; bytes = rw (e, drop-drop, sets-eq w l at room, append_assoc) }

-- what has been put at the start
module _ {l r text : List ℕ} {next : ℕ} (p : Put l 0 text next r) where
  pub front_length : next ≡ length text
  front_length = p.ends ∙ zero-add (length text)

  pub front : next ≤ length l → take next r ≡ text
  front h =
      let e = front_length in
      rw (p.bytes, e, sets-eq text l 0 (omega arith), take-append_seam)

-- a text that does not fit; and one that does, put at the start
module _ (text out : List ℕ) where
  pub given-none : length out < length text → Given text out 0 out
  given-none h = record { length_is = rw (lt-leb (length text) (length out) h); bytes_are = rw (lt-leb (length text) (length out) h) }

  pub given-whole : {made : ℕ} {after : List ℕ} → length text ≤ length out → Put out 0 text made after → Given text out made after
  given-whole h p = record {
    length_is = rw (le-leb (length text) (length out) h) (front_length p);
    bytes_are = rw (le-leb (length text) (length out) h) (p.bytes ∙ sets-eq text out 0 (omega arith) ∙ rw zero-add);
  }
