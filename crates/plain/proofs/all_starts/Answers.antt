-- The starts that are lent, and 0 in the places after them. Assumes nothing.
use Prim.Native.Nat.{min}
use mathlib.Core.Path.{◌≡◌}
use native.Mathlib.Omega.{arith}
use lib.ListN.{length}
use Rattle.std.proofs.lemmas.List.{take_min}
use Rattle.laws.proofs.Filled.{filled_next}
use Rattle.plain.proofs.all_starts.Goals as goal

pub loop-i-preserved : goal.loop-i-preserved
loop-i-preserved c = rw c.loop-i.invariant (filled_next 32 0 c.args.starts.now c.loop-i.i (omega arith) (omega arith))

pub returns : goal.returns
returns c =
    let s = c.args.starts.now in
    let e : c.loop-i.i ≡ min 32 (length s) = omega arith in
    rw (c.loop-i.invariant, e, take_min)
