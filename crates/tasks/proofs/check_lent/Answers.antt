-- 9 to 11 of a table: each of its tasks by its number. Assumes nothing.
use borrow.Author.Rules.{rules}
use Rattle.rules.specs.Refusals.{check_tasks}
use Rattle.tasks.proofs.check_lent.Goals as goal

pub returns : goal.returns
unfolding check_tasks
returns c = search rules
