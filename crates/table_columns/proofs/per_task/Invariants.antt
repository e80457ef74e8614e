-- Of each task its core and its latest allowed response. Assumes nothing.
use Rattle.groups.specs.Columns.{PerTask}
use Rattle.table_columns.proofs.per_task.Given as goal

abbrev pub invariant-loop-i : goal.invariant-loop-i
invariant-loop-i g l = PerTask (g.S.Source.table l.source).task l.i l.core l.latest
