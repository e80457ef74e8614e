-- 5 to 8 of a table. Assumes nothing.
use Rattle.rules.specs.Refusals.{check_board}
use Rattle.checks.proofs.check_lent_board.Goals as goal

pub returns : goal.returns
unfolding check_board
returns c = c.board_refusal.ensures
