-- `cycles::act` meets its contract. Assumes nothing.
use Rattle.rules.specs.Delays.{act}
use Rattle.cycles.proofs.act.Goals as goal

pub returns : goal.returns
unfolding act
returns c = rw (c.larger.ensures, c.figure-faw.ensures.0, c.figure-rrd.ensures.0)
