-- `hits::conf` meets its contract. Assumes nothing.
use Rattle.rules.specs.Delays.{reopen, conf}
use Rattle.hits.proofs.conf.Goals as goal

pub returns : goal.returns
unfolding reopen conf
returns c = rw (c.hit.ensures.0, c.figure-2.ensures.0, c.figure.ensures.0)
