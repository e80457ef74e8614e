-- The counts, one after the other. Assumes nothing.
use borrow.Author.Rules.{rules}
use Rattle.changes.specs.declared.Figure.TheVariants.{Partitions, Tasks, Fourth}
use Rattle.changes.specs.Difference.{unequal, counts_difference}
use Rattle.changes.proofs.First.{either}
use Rattle.order.proofs.counts_difference.Goals as goal

pub returns : goal.returns
unfolding counts_difference
returns c =
    let a = c.args.older.now in
    let b = c.args.newer.now in
    rw (
      either c.or_else-2.result (unequal Fourth 0 a.fourth b.fourth) c.or_else-3.ensures (λ post. search rules),
      either c.or_else.result (unequal Tasks 0 a.tasks b.tasks) c.or_else-2.ensures (λ post. search rules),
      either c.unequal.result (unequal Partitions 0 a.partitions b.partitions) c.or_else.ensures (λ post. search rules),
      c.unequal.ensures,
    )
