-- 5 to 8 and 16, then 9 to 11. Assumes nothing.
use Rattle.rules.specs.Refusals.{check_table}
use Rattle.facts.proofs.Chain.{stops_at, goes_on_to}
use Rattle.fields.proofs.Steps.{sets_end}
use Rattle.file.proofs.Reading.{whole-sized}
use Rattle.file.proofs.figures_refusal.Goals as goal

pub board-requires : goal.board-requires
board-requires c = sets_end c.args.file.now (whole-sized _ c.requires)

pub returns-in_err-board : goal.returns-in_err-board
unfolding check_table
returns-in_err-board c = stops_at _ _ _ _ c.from_residual.ensures.1 c.in_err-board.ensures

pub records_in-requires : goal.records_in-requires
records_in-requires c = whole-sized _ c.requires

pub returns : goal.returns
unfolding check_table
returns c = goes_on_to _ _ _ _ c.in_ok-board.ensures c.records_in.ensures
