-- The numbers of a trailer, each stored after the one before. Assumes nothing.
use mathlib.Core.Path.{◌≡◌}
use mathlib.Core.List.{List, ◌++◌}
use Prim.Native.Nat.{ℕ, ◌+◌}
use lib.ListN.{length, length-append}
use lib.Seq.{sets}
use Rattle.rules.specs.File.{sum_of, running_sum, trailer}
use Rattle.laws.specs.Idioms.{bytes_of}
use Rattle.laws.proofs.Bytes.{bytes-length}
use Rattle.laws.proofs.Runs.{sets-after}

pub trailer_stores : (s out : List ℕ) (at : ℕ)
    → sets (sets (sets out at (bytes_of 4 (length s))) (at + 4) (bytes_of 4 (sum_of s))) (at + 8) (bytes_of 4 (running_sum s)) ≡ sets out at (trailer s)
unfolding trailer
trailer_stores s out at =
    let a = bytes_of 4 (length s) in
    rw (sets-after a (bytes_of 4 (sum_of s)) out at (at + 4) (simp bytes-length))
    (sets-after (a ++ bytes_of 4 (sum_of s)) (bytes_of 4 (running_sum s)) out at (at + 8) (simp (length-append, bytes-length)))
