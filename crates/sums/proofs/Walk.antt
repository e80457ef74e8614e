-- Blocks of words, then what is left: the sums of the bytes that have been read, joined with those of the bytes after them. Assumes nothing.
use mathlib.Core.Path.{◌≡◌, ◌∙◌, refl, sym, ap}
use mathlib.Core.List.{List, [], ◌∷◌, ◌++◌, append_assoc, append-nil}
use Prim.Native.Nat.{ℕ, zero, suc, ◌+◌, ◌*◌, ◌<◌, ◌≤◌}
use native.Mathlib.Omega.{arith}
use Rattle.std.proofs.lemmas.List.{nil_from_length}
use lib.ListN.{length, length-append, get_or}
use Rattle.rules.specs.File.{sum_of, running_sum}
use Rattle.lanes.specs.declared.Totals.{Totals}
use Rattle.lanes.specs.Sums.{sums_of, joined_sums}
use Rattle.lanes.proofs.Running.{sums-append, append-fits}

-- t is the sums of what stands before `left` in the words, after which the rest stands
pub record Walked (s left rest : List ℕ) (t : Totals) : Type 0 where
  pub read : List ℕ
  pub sums : t ≡ sums_of read
  pub whole : read ++ (left ++ rest) ≡ s

pub walked-none : (words rest : List ℕ) → Walked (words ++ rest) words rest (record { sum = 0; running = 0 })
unfolding running_sum
walked-none words rest = record { read = []; sums = refl; whole = refl }

front-bytes : (p q : List ℕ) → ((i : ℕ) → get_or (p ++ q) i 0 < 256) → (i : ℕ) → get_or p i 0 < 256
front-bytes [] q h i = omega arith
front-bytes (x ∷ p) q h zero = h 0
front-bytes (x ∷ p) q h (suc i) = front-bytes p q (λ j. h (suc j)) i

-- what is joined has room
module _ (l m after s : List ℕ) (whole : (l ++ m) ++ after ≡ s) (byte : (i : ℕ) → get_or s i 0 < 256) (few : length s ≤ 65536) where
  joined-fits : (sum_of l + sum_of m < 18446744073709551616) × (running_sum l + length m * sum_of l + running_sum m < 18446744073709551616)
  joined-fits = append-fits l m (front-bytes (l ++ m) after (rw (sym whole) at byte)) (omega (arith, length-append (l ++ m) after, ap length whole))

module _ {s left rest : List ℕ} {t : Totals} (w : Walked s left rest t) where
  -- one block more
  module _ (block more : List ℕ) (e : left ≡ block ++ more) where
    next-whole : (w.read ++ block) ++ (more ++ rest) ≡ s
    next-whole = simp append_assoc (simp append_assoc at (rw e at w.whole))

    pub walked_next : Walked s more rest (joined_sums t (sums_of block) (length block))
    walked_next = record {
      read = w.read ++ block;
      sums = rw w.sums (sums-append w.read block);
      whole = next-whole;
    }

    pub next-fits : ((i : ℕ) → get_or s i 0 < 256) → length s ≤ 65536
        → (t.sum + sum_of block < 18446744073709551616) × (t.running + length block * t.sum + running_sum block < 18446744073709551616)
    next-fits byte few = rw w.sums (joined-fits w.read block (more ++ rest) s next-whole byte few)

  -- no word is left
  module _ (none : length left ≡ 0) where
    last-whole : w.read ++ rest ≡ s
    last-whole = rw (nil_from_length left none) at w.whole

    pub walked-all : joined_sums t (sums_of rest) (length rest) ≡ sums_of s
    walked-all = rw w.sums (sums-append w.read rest ∙ ap sums_of last-whole)

    pub last-fits : ((i : ℕ) → get_or s i 0 < 256) → length s ≤ 65536
        → (t.sum + sum_of rest < 18446744073709551616) × (t.running + length rest * t.sum + running_sum rest < 18446744073709551616)
    last-fits byte few = rw w.sums (joined-fits w.read rest [] s (append-nil (w.read ++ rest) ∙ last-whole) byte few)
