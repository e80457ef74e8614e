-- T, C and H of the tasks, in an order of their places. Assumes nothing.
use mathlib.Core.Path.{◌≡◌}
use Rattle.groups.specs.Columns.{Columns}
use Rattle.table_columns.proofs.columns.Given as goal

abbrev pub invariant-loop-k : goal.invariant-loop-k
invariant-loop-k g l =
    Columns (g.S.Source.table l.source).task l.k l.order l.tasks.periods l.tasks.execs l.tasks.requests × (l.tasks.begins ≡ l.initial.tasks.begins)
