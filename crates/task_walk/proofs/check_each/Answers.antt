-- One walk over the tasks. Assumes nothing.
use Prim.Native.Nat.{◌+◌}
use mathlib.Core.Path.{sym, ◌∙◌}
use native.Mathlib.Omega.{arith}
use Rattle.task_walk.proofs.Seen.{seen_none, seen_task, seen_past, seen_all}
use Rattle.task_walk.proofs.check_each.Goals.{then-task_fault, else-task_fault}
use Rattle.task_walk.proofs.check_each.Goals as goal

pub loop-i-init : goal.loop-i-init
loop-i-init g c = λ at same. rw c.no_faults-seen.ensures (seen_none _ _ _)

pub loop-i-preserved : goal.loop-i-preserved
loop-i-preserved g c = λ at same.
    let here = same (c.loop-i.i + 1) c.task-x.result (omega arith) (omega arith) c.task-x.ensures in
    elim c.if-task_fault.branch [
      | then-task_fault w ↦ seen_task _ at _ (c.loop-i.invariant at same) (omega arith) here (w.seen-is ∙ w.noted-seen.ensures)
      | else-task_fault w ↦
          rw w.seen-is (seen_past _ at _ (c.loop-i.invariant at same) (omega arith) here (sym c.task_fault.ensures ∙ w.if-task_fault.false))
    ]

pub returns : goal.returns
returns g c = λ at same. rw (sym (seen_all _ at _ (c.loop-i.invariant at same) (omega arith))) c.told.ensures
