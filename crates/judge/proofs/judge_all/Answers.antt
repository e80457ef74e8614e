-- The judgement of all tasks: the checks before it, then 13, 14 or the answers. Assumes nothing.
use mathlib.Core.Path.{sym}
use Rattle.facts.proofs.Chain.{was-allowed}
use Rattle.judge.proofs.Links.{stops-table}
use Rattle.judge.proofs.judge_all.Goals as goal

pub returns-in_err-table : goal.returns-in_err-table
returns-in_err-table c = stops-table _ _ c.from_residual.ensures.1 c.in_err-table.ensures

pub judge_tasks-requires : goal.judge_tasks-requires
judge_tasks-requires c = (was-allowed _ _ (sym c.in_ok-table.ensures)).0

pub returns : goal.returns
returns c = rw c.numbers.ensures at c.judge_tasks.ensures
