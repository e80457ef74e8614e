-- A board of more cores than a table has places for, and the tasks of a file's records, one after the other. Assumes nothing.
use mathlib.Core.Path.{◌≡◌, refl, sym}
use mathlib.Core.List.{List}
use Prim.Native.Nat.{ℕ, ◌+◌, ◌<◌, ◌≤◌}
use native.Mathlib.Omega.{arith}
use lib.ListN.{length, set}
use borrow.Author.Tests.{lt-leb}
use Rattle.rules.specs.declared.Task.{Task}
use Rattle.rules.specs.declared.Table.{Table}
use Rattle.rules.specs.Tasks.{no_task}
use Rattle.std.specs.Prelude.{Err}
use Rattle.rules.specs.Chain.{refused, granted}
use Rattle.facts.proofs.Chain.{denied}
use Rattle.rules.specs.Refusals.{counts_fault, board_refusal, check_board}
use Rattle.rules.specs.File.{records_at, record_size, record_at, record_task, record_in, cores_in, form_in, decode}
use Rattle.laws.specs.Idioms.{filled}
use Rattle.laws.proofs.Fill.{fill_step}
use Rattle.laws.proofs.Tests.{and_false}
use Rattle.laws.proofs.Runs.{map-up_to-next, length-map-from}
use Rattle.places.proofs.Places.{records_are, record_within, after-sets}
use Rattle.contents.specs.Tasks.{tasks_to}

-- 5 is given from the counts alone
many-cores : (t : Table) → 8 < t.cores → check_board t ≡ refused 5 0
unfolding check_board board_refusal counts_fault
many-cores t h = rw (lt-leb t.cores 8 h, and_false)

module _ (s : List ℕ) where
  pub counted-out : 8 < cores_in s → Err (refused 5 0) ≡ granted (check_board (decode s)) (tt {0})
  unfolding decode
  counted-out many = rw (many-cores (decode s) many) (sym (denied (refused 5 0) (tt {0}) refl))

  pub task-next : (i : ℕ) → i < 32 → set (filled 32 no_task (tasks_to s i)) i (record_task (record_in s (i + 1))) ≡ filled 32 no_task (tasks_to s (i + 1))
  task-next i h =
      let f : ℕ → Task = λ k. record_task (record_in s k) in
      rw (map-up_to-next f i) (fill_step 32 no_task (tasks_to s i) i (f (i + 1)) (length-map-from f i 1) h)

  -- a file that reaches the end of n records reaches the end of each of them, and of the sets
  module _ (n : ℕ) (reaches : record_at (form_in s) (cores_in s) (n + 1) ≤ length s) where
    pub record_there : (i : ℕ) → i < n → record_at (form_in s) (cores_in s) (i + 1) + record_size (form_in s) ≤ length s
    record_there i h = omega (arith, record_within (form_in s) (cores_in s) i n h)

    pub sets-there : records_at (form_in s) (cores_in s) ≤ length s
    sets-there = omega (arith, records_are (form_in s) (cores_in s), after-sets (form_in s) (cores_in s) (n + 1))
