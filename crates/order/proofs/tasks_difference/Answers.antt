-- The tasks of two tables compared, place by place, as far as the arrays reach. Assumes nothing.
use borrow.Author.Rules.{rules}
use mathlib.Core.Path.{◌≡◌, ◌∙◌, refl}
use Prim.Native.Nat.{ℕ, ◌-◌, ◌<◌}
use native.Mathlib.Omega.{arith}
use lib.ListN.{length, get_or-eq_default}
use Rattle.std.specs.Prelude.{Option, None, max}
use Rattle.rules.specs.declared.Table.{Table}
use Rattle.rules.specs.Tasks.{no_task, task_of}
use Rattle.changes.specs.declared.Figure.{Figure}
use Rattle.changes.specs.declared.Change.{Change}
use Rattle.changes.specs.Difference.{◌or_else◌, task_difference, tasks_difference}
use Rattle.changes.proofs.First.{as_far}
use Rattle.order.proofs.tasks_difference.Goals as goal

at : Table → Table → ℕ → Option (Change Figure)
at older newer k = task_difference k (task_of older k) (task_of newer k)

beyond : (older newer : Table) (k : ℕ) → max (length older.task) (length newer.task) < k → at older newer k ≡ None
unfolding at task_difference ◌or_else◌
beyond older newer k h =
    rw (get_or-eq_default older.task no_task {n = k - 1} (omega (arith, h)), get_or-eq_default newer.task no_task {n = k - 1} (omega (arith, h))) refl

pub returns : goal.returns
unfolding tasks_difference at
returns c =
    let older = c.args.older.now in
    let newer = c.args.newer.now in
    c.first_of.ensures (at older newer) (λ k d low high post. search rules)
    ∙ rw c.last_place.ensures (as_far (at older newer) older.tasks (max (length older.task) (length newer.task)) (beyond older newer))
