-- `hits::reopen` meets its contract. Assumes nothing.
use Rattle.rules.specs.Delays.{reopen}
use Rattle.hits.proofs.reopen.Goals as goal

pub returns : goal.returns
unfolding reopen
returns c = rw (c.figure-2.ensures.0, c.figure.ensures.0)
