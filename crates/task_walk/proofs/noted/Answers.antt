-- What has been seen, and one task more. Assumes nothing.

use Rattle.task_walk.specs.Faults.{with_task}
use Rattle.task_walk.proofs.noted.Goals as goal

pub returns : goal.returns
unfolding with_task
returns c =
    rw (c.earliest-3.ensures, c.request_fault.ensures, c.earliest-2.ensures, c.time_fault.ensures, c.earliest.ensures, c.core_fault.ensures)
