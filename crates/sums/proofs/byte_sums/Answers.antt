-- Both sums in one pass: after i bytes they are the sums of the first i. Assumes nothing.
use Prim.Native.Nat.{◌+◌}
use mathlib.Core.Path.{refl}
use native.Mathlib.Omega.{arith}
use borrow.Author.Rules.{rules}
use Rattle.rules.specs.File.{running_sum}
use Rattle.lanes.proofs.Running.{sum-next, running-next}
use Rattle.sums.proofs.byte_sums.Goals as goal

pub loop-byte-init : goal.loop-byte-init
unfolding running_sum
loop-byte-init c = search rules

pub loop-byte-preserved : goal.loop-byte-preserved
loop-byte-preserved c =
    let l = c.loop-byte in
    let s = c.args.s.now in
    omega (arith, c.type_inv.s l.byte-index, sum-next s l.byte-index (l.byte-index + 1) refl (omega arith), running-next s l.byte-index (l.byte-index + 1) refl (omega arith))
