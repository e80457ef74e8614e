-- Bytes lowest first: what is left to store after some of them. Assumes nothing.
use Prim.Native.Nat.{◌-◌}
use mathlib.Core.Path.{◌≡◌}
use lib.Seq.{sets}
use Rattle.laws.specs.Idioms.{bytes_of}
use Rattle.lent_bytes.proofs.put.Given as goal

abbrev pub invariant-loop-byte : goal.invariant-loop-byte
invariant-loop-byte l = bytes_of l.n l.v ≡ sets l.byte-items l.byte-index (bytes_of (l.n - l.byte-index) l.rest)
