-- The first place at fault so far. Assumes nothing.
use Rattle.task_walk.specs.Faults.{earliest}
use Rattle.task_walk.proofs.earliest.Goals as goal

pub returns : goal.returns
unfolding earliest
returns c = rw (c.or.ensures, c.then_some.ensures)
