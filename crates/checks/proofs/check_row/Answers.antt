-- The check of a row, by the table's kind. Assumes nothing.
use mathlib.Core.Path.{sym, ◌∙◌}
use Rattle.rules.specs.Refusals.{check_row}
use Rattle.checks.proofs.check_row.Goals as goal

pub returns-then-says_bus : goal.returns-then-says_bus
unfolding check_row
returns-then-says_bus c = rw (sym c.says_bus.ensures ∙ c.if-says_bus.true) c.check_bus.ensures

pub returns-else-says_bus : goal.returns-else-says_bus
unfolding check_row
returns-else-says_bus c = rw (sym c.says_bus.ensures ∙ c.if-says_bus.false) c.check.ensures
