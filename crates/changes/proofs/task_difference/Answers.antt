-- A task's figures, one after the other. Assumes nothing.
use borrow.Author.Rules.{rules}
use Rattle.rules.specs.Tasks.{C, T, D, H}
use Rattle.changes.specs.declared.Figure.TheVariants.{Deadline, Exec, Requests, Period}
use Rattle.changes.specs.Difference.{unequal, lower, longer, task_difference}
use Rattle.changes.proofs.First.{either}
use Rattle.changes.proofs.task_difference.Goals as goal

pub returns : goal.returns
unfolding task_difference
returns c =
    let k = c.args.k in
    let i = c.args.i in
    let j = c.args.j in
    rw (
      either c.or_else-3.result (longer Period k (T i) (T j)) c.or_else-4.ensures (λ post. search rules),
      either c.or_else-2.result (lower Requests k (H i) (H j)) c.or_else-3.ensures (λ post. search rules),
      either c.or_else.result (lower Exec k (C i) (C j)) c.or_else-2.ensures (λ post. search rules),
      either c.unequal.result (unequal Deadline k (D i) (D j)) c.or_else.ensures (λ post. search rules),
      c.unequal.ensures,
    )
