-- `hits::hit` meets its contract. Assumes nothing.
use native.Mathlib.Omega.{arith}
use Rattle.rules.specs.Delays.{hit}
use Rattle.hits.proofs.hit.Goals as goal

pub returns : goal.returns
unfolding hit
returns c = (
  rw (
    c.max-2.ensures,
    c.max.ensures,
    c.figure-4.ensures.0,
    c.figure-3.ensures.0,
    c.figure-2.ensures.0,
    c.figure.ensures.0,
    c.figure-half.ensures.0,
  ),
  omega arith,
)
