-- The board, then the tasks. Assumes nothing.
use Rattle.rules.specs.Refusals.{check_table}
use Rattle.facts.proofs.Chain.{stops_at, goes_on_to}
use Rattle.checks.proofs.check_lent.Goals as goal

pub returns-in_err-check_lent_board : goal.returns-in_err-check_lent_board
unfolding check_table
returns-in_err-check_lent_board c = stops_at _ _ _ _ c.from_residual.ensures.1 c.in_err-check_lent_board.ensures

pub returns : goal.returns
unfolding check_table
returns c = goes_on_to _ _ _ _ c.in_ok-check_lent_board.ensures c.check_lent.ensures
