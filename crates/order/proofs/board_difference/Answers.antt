-- Two boards compared: the counts, then two pairs of lists. Assumes nothing.
use borrow.Author.Rules.{rules}
use Rattle.changes.specs.declared.Figure.TheVariants.{Timing, Set}
use Rattle.changes.specs.Difference.{unlike, board_difference}
use Rattle.changes.proofs.First.{either}
use Rattle.order.proofs.board_difference.Goals as goal

pub returns : goal.returns
unfolding board_difference
returns c =
    let a = c.args.older.now in
    let b = c.args.newer.now in
    rw (
      either c.or_else.result (unlike Set a.cores a.sets b.sets) c.or_else-2.ensures (λ post. search rules),
      either c.counts_difference.result (unlike Timing 15 a.timing b.timing) c.or_else.ensures (λ post. search rules),
      c.counts_difference.ensures,
    )
