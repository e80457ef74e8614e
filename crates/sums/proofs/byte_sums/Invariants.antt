-- Both sums in one pass: after some bytes they are the sums of those. Assumes nothing.
use Prim.Native.Nat.{◌*◌, ◌≤◌}
use mathlib.Core.Path.{◌≡◌}
use lib.ListN.{take}
use Rattle.rules.specs.File.{sum_of, running_sum}
use Rattle.sums.proofs.byte_sums.Given as goal

abbrev pub invariant-loop-byte : goal.invariant-loop-byte
invariant-loop-byte l =
    (l.sum ≤ 255 * l.byte-index) × (l.running ≤ 16777216 * l.byte-index) × (l.sum ≡ sum_of (take l.byte-index l.s)) × (l.running ≡ running_sum (take l.byte-index l.s))
