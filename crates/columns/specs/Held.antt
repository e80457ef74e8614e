-- Lent columns that hold the figures of a table. Assumes nothing.
use Rattle.std.specs.Prelude.{ℕ, ◌≡◌, List}
use Rattle.rules.specs.declared.Table.{Table}
use Rattle.groups.specs.Grouped.{Ordered}
use Rattle.groups.specs.Columns.{PerTask, Columns}
use Rattle.own.specs.declared.Lent.{Lent}
use Rattle.prices.specs.Costs.{priced_of}

pub record Held (t : Table) (l : Lent) : Type 0 where
  pub board_is : l.board ≡ priced_of t
  pub per_task : PerTask t.task t.tasks l.core l.latest
  pub order : List ℕ
  pub ordered : Ordered t.cores t.tasks l.core l.tasks.begins order
  pub columns : Columns t.task t.tasks order l.tasks.periods l.tasks.execs l.tasks.requests
