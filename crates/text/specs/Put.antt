-- What it means that a text is put into a buffer at a place, or given to a lent buffer whole or not at all. Assumes nothing.
use Rattle.std.specs.Prelude.{◌≡◌, cond, List, ◌++◌, ℕ, ◌+◌, leb, length, drop}
use Rattle.std.proofs.lemmas.List.Edits.{sets}

-- `next` is the place after the text, which has been stored byte by byte from place `at` on; no other byte changed
pub record Put (before : List ℕ) (at : ℕ) (text : List ℕ) (next : ℕ) (after : List ℕ) : Type 0 where
  pub ends : next ≡ at + length text
  pub bytes : after ≡ sets before at text

-- a text in a lent buffer: its length, and the bytes behind it are left. Where the buffer is too short the length is 0, and no byte changes
abbrev pub given_length : List ℕ → List ℕ → ℕ
given_length text out = cond (leb (length text) (length out)) (length text) 0

abbrev pub given_after : List ℕ → List ℕ → List ℕ
given_after text out = cond (leb (length text) (length out)) (text ++ drop (length text) out) out

pub record Given (text out : List ℕ) (made : ℕ) (after : List ℕ) : Type 0 where
  pub length_is : made ≡ given_length text out
  pub bytes_are : after ≡ given_after text out
