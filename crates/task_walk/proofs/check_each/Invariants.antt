-- One walk over the tasks. Assumes nothing.
use Rattle.std.specs.Prelude.{ℕ, ◌≤◌, ◌≡◌}
use Rattle.rules.specs.declared.Task.{Task}
use Rattle.task_walk.proofs.Seen.{SeenAll}
use Rattle.task_walk.proofs.check_each.Given as goal

abbrev pub invariant-loop-i : goal.invariant-loop-i
invariant-loop-i g l =
    (at : ℕ → Task) → ((k : ℕ) (x : Task) → 1 ≤ k → k ≤ l.n → goal.F-post g l.task k x → x ≡ at k) → SeenAll l.cores at l.n l.i l.seen
