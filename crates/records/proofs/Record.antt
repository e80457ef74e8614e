-- The figures of a record, each stored after the one before. Assumes nothing.
use mathlib.Core.Path.{◌≡◌}
use mathlib.Core.List.{List, ◌++◌}
use Prim.Native.Nat.{ℕ, ◌+◌}
use lib.ListN.{length, length-append}
use lib.Seq.{sets}
use Rattle.rules.specs.declared.Task.{Task}
use Rattle.rules.specs.Tasks.{C, T, D, H}
use Rattle.rules.specs.File.{record_size, record_bytes}
use Rattle.laws.specs.Idioms.{bytes_of}
use Rattle.laws.proofs.Bytes.{bytes-length}
use Rattle.laws.proofs.Runs.{sets-after}

module _ (form : ℕ) (i : Task) where
  pub record_length : length (record_bytes form i) ≡ record_size form
  unfolding record_bytes record_size
  record_length = simp (length-append, bytes-length)

  pub record_stores : (out : List ℕ) (at : ℕ)
      → sets (sets (sets (sets (sets out at (bytes_of 1 i.core)) (at + 1) (bytes_of 8 (C i))) (at + 9) (bytes_of 8 (T i))) (at + 17) (bytes_of 8 (D i))) (at + 25) (bytes_of 4 (H i))
      ≡ sets out at (record_bytes form i)
  unfolding record_bytes
  record_stores out at =
      let a = bytes_of 1 i.core in
      let b = a ++ bytes_of 8 (C i) in
      let c = b ++ bytes_of 8 (T i) in
      let first = sets-after a (bytes_of 8 (C i)) out at (at + 1) (simp bytes-length) in
      let second = sets-after b (bytes_of 8 (T i)) out at (at + 9) (simp (length-append, bytes-length)) in
      let third = sets-after c (bytes_of 8 (D i)) out at (at + 17) (simp (length-append, bytes-length)) in
      rw (first, second, third) (sets-after (c ++ bytes_of 8 (D i)) (bytes_of 4 (H i)) out at (at + 25) (simp (length-append, bytes-length)))
