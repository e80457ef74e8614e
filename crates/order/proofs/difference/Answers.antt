-- The boards of two tables compared, then their tasks. Assumes nothing.
use borrow.Author.Rules.{rules}
use Rattle.changes.specs.Difference.{tasks_difference, difference}
use Rattle.changes.proofs.First.{either}
use Rattle.order.proofs.difference.Goals as goal

pub returns : goal.returns
unfolding difference
returns c =
    rw (
      either c.board_difference.result (tasks_difference c.args.older c.args.newer) c.or_else.ensures (λ post. search rules),
      c.board_difference.ensures,
    )
