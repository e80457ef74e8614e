-- `cycles::readwrite` meets its contract. Assumes nothing.
use Rattle.rules.specs.Delays.{readwrite}
use Rattle.cycles.proofs.readwrite.Goals as goal

pub returns : goal.returns
unfolding readwrite
returns c =
    rw (
      c.larger.ensures,
      c.larger-longest-3.ensures,
      c.larger-longest-2.ensures,
      c.larger-longest.ensures,
      c.turn-longest.ensures.0,
      c.figure-rtrs.ensures.0,
      c.figure-half.ensures.0,
      c.figure-wl.ensures.0,
      c.figure-cl.ensures.0,
    )
