-- How many tasks a file shows; where the record of a task starts, and where there is none. Assumes nothing.
use mathlib.Core.Path.{◌≡◌}
use mathlib.Core.Bool.{true, false}
use mathlib.Core.List.{List}
use Prim.Native.Nat.{ℕ}
use Rattle.rules.specs.Chain.{is_accepted}
use Rattle.rules.specs.File.{cores_in, tasks_in, form_in, record_at}
use Rattle.rules.specs.Operations.{check_file, check_view}
use Rattle.shown.specs.Shown.{task_count, record_place}

module _ (s : List ℕ) where
  pub no_tasks : is_accepted (check_file s) ≡ false → task_count s ≡ 0
  unfolding task_count
  no_tasks refused = rw refused

  pub tasks-there : is_accepted (check_file s) ≡ true → task_count s ≡ tasks_in s
  unfolding task_count
  tasks-there passes = rw passes

module _ (s : List ℕ) (k : ℕ) where
  pub no_record : is_accepted (check_view s k) ≡ false → record_place s k ≡ 0
  unfolding record_place
  no_record refused = rw refused

  pub record_there : is_accepted (check_view s k) ≡ true → record_place s k ≡ record_at (form_in s) (cores_in s) k
  unfolding record_place
  record_there passes = rw passes
