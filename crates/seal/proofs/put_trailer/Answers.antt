-- The trailer of what stands before it. Assumes nothing.
use mathlib.Core.Path.{◌≡◌}
use native.Mathlib.Omega.{arith}
use lib.ListN.{length, take}
use lib.Seq.{length-take-le}
use Rattle.seal.proofs.Stores.{trailer_stores}
use Rattle.seal.proofs.put_trailer.Goals as goal

pub returns : goal.returns
returns c =
    let a = c.args in
    let front = take a.e a.out.now in
    let long : length front ≡ a.e = length-take-le a.e a.out.now (omega arith) in
    rw (c.put-3.ensures, c.put-2.ensures, c.put.ensures, c.sums-total.ensures) (rw long at (trailer_stores front a.out.now a.e))
