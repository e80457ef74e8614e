-- Figures of tasks in lent arrays: by the tasks' numbers, or in another order. Places are counted from 0. Assumes nothing.
use Rattle.std.specs.Prelude.{ℕ, ◌<◌, ◌≡◌, List, get_or}
use Rattle.rules.specs.declared.Task.{Task}
use Rattle.rules.specs.Tasks.{C, T, H, latest, no_task}

-- of the first n tasks the core and the latest allowed response
pub record PerTask (tasks : List Task) (n : ℕ) (core latests : List ℕ) : Type 0 where
  pub core_is : (i : ℕ) → i < n → get_or core i 0 ≡ (get_or tasks i no_task).core
  pub latest_is : (i : ℕ) → i < n → get_or latests i 0 ≡ latest (get_or tasks i no_task)

-- a figure of n tasks, in an order of their places; and all three
pub record InOrder (f : Task → ℕ) (tasks : List Task) (n : ℕ) (order column : List ℕ) : Type 0 where
  pub each : (k : ℕ) → k < n → get_or column k 0 ≡ f (get_or tasks (get_or order k 0) no_task)

pub record Columns (tasks : List Task) (n : ℕ) (order spans costs asks : List ℕ) : Type 0 where
  pub periods : InOrder T tasks n order spans
  pub execs : InOrder C tasks n order costs
  pub requests : InOrder H tasks n order asks
