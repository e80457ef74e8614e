-- The task of a record. Assumes nothing.
use mathlib.Core.Path.{◌∙◌}
use Rattle.fields.proofs.Steps.{record_long}
use Rattle.fields.proofs.record_task.Goals as goal

pub task_in-requires : goal.task_in-requires
task_in-requires c = rw c.record_in.ensures (record_long _ _ c.requires.file_in_bounds)

pub returns : goal.returns
returns c = c.task_in.ensures ∙ rw c.record_in.ensures
