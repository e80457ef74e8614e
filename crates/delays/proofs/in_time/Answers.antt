-- `delays::in_time` meets its contract: the product is the one that it asks to fit. Assumes nothing.
use Rattle.rules.specs.Units.{in_time}
use Rattle.delays.proofs.in_time.Goals as goal

pub returns : goal.returns
unfolding in_time
returns c = rw c.figure.ensures.0
