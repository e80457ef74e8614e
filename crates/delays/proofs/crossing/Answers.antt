-- `delays::crossing` meets its contract: at most 390 cycles. Assumes nothing.
use native.Mathlib.Omega.{arith}
use Rattle.delays.proofs.Bounds.{crossing-high}
use Rattle.delays.proofs.crossing.Goals as goal

pub plus-requires : goal.plus-requires
plus-requires c = rw (c.pre.ensures, c.act.ensures) (omega (arith, crossing-high _ c.requires))

pub plus-requires-2 : goal.plus-requires-2
plus-requires-2 c =
    rw (c.plus.ensures, c.pre.ensures, c.act.ensures, c.readwrite.ensures)
    (omega (arith, crossing-high _ c.requires))
