-- The task in a place of a whole file. Assumes nothing.
use mathlib.Core.Path.{◌∙◌}
use native.Mathlib.Omega.{arith}
use Rattle.fields.proofs.Steps.{record_ends, task_is}
use Rattle.fields.proofs.task_at.Goals as goal

pub record_task-requires : goal.record_task-requires
record_task-requires c = record { i_bound = omega (arith, c.type_inv.file 2); file_in_bounds = record_ends c.args.file.now c.args.i c.requires.i_bound c.requires.sized }

pub returns : goal.returns
returns c = c.record_task.ensures ∙ task_is c.args.file.now c.args.i c.requires.i_bound
