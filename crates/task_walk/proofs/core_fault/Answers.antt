-- The core is none of the table's. Assumes nothing.
use Rattle.rules.specs.Refusals.{core_fault}
use Rattle.task_walk.proofs.core_fault.Goals as goal

pub returns : goal.returns
unfolding core_fault
returns c = c.outside.ensures
