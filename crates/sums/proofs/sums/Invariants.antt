-- Blocks of words, then what is left. Assumes nothing.
use Prim.Native.Nat.{◌%◌}
use mathlib.Core.Path.{◌≡◌}
use lib.ListN.{length}
use Rattle.sums.proofs.Walk.{Walked}
use Rattle.sums.proofs.sums.Given as goal

abbrev pub invariant-loop-block : goal.invariant-loop-block
invariant-loop-block l = (l.block-iterator.size ≡ 128) × (length l.block-iterator.rest.now % 8 ≡ 0) × Walked l.s l.block-iterator.rest.now l.rest l.t
