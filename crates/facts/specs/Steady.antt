-- What the response equation asks of any memory, whatever the board: then points 2 and 3 hold of it (`AnyMemory` in claims/specs). Assumes nothing.
use Rattle.std.specs.Prelude.{◌≡◌, ℕ, ◌≤◌}
use mathlib.Core.List.{List, ◌++◌, map, Memᴰ}
use Rattle.rules.specs.declared.Task.{Task}
use Rattle.rules.specs.declared.Table.{Table}
use Rattle.laws.specs.Pairs.{Paired}
use Rattle.rules.specs.Tasks as Tasks
use Rattle.rules.specs.Tasks.{C, T, H, releases, latest, task_of, core_of}
use Rattle.rules.specs.Board.{Memory, memory_of}
use Rattle.rules.specs.Response.{response}

-- a job delay that never falls as t grows, and steps only where the count of one of the tasks elsewhere does
pub record Steady (m : Memory) (elsewhere : List Task) : Type 0 where
  pub rises : (t u : ℕ) → t ≤ u → m.per_job t ≤ m.per_job u
  pub steps : (t u : ℕ) → ((j : Task) → Memᴰ j elsewhere → releases j t ≡ releases j u) → m.per_job t ≡ m.per_job u

-- the newer memory takes no less, for a request and for a job
pub record Slower (older newer : Memory) : Type 0 where
  pub per_request : older.per_request ≤ newer.per_request
  pub per_job : (t : ℕ) → older.per_job t ≤ newer.per_job t

-- task i in t asks for no more than task j in u
pub record NoMore (t u : ℕ) (i j : Task) : Type 0 where
  pub exec : C i ≤ C j
  pub requests : H i ≤ H j
  pub often : releases i t ≤ releases j u

-- a task over a memory: with the higher tasks of its core, and the tasks elsewhere
pub record Case : Type 0 where
  pub memory : Memory
  pub task : Task
  pub higher : List Task
  pub elsewhere : List Task

-- its response equation, and the counts through which that looks at the time
abbrev pub equation_of : Case → ℕ → ℕ
equation_of c = response c.memory c.task c.higher

abbrev pub counts_in : Case → List (ℕ → ℕ)
counts_in c = map releases (c.higher ++ c.elsewhere)

-- task number k of a table
abbrev pub case_of : Table → ℕ → Case
case_of t k = record {
  memory = memory_of t (core_of t k);
  task = task_of t k;
  higher = Tasks.higher t k;
  elsewhere = Tasks.elsewhere t (core_of t k);
}

-- what is asked of a case
pub record Fit (c : Case) : Type 0 where
  pub steady : Steady c.memory c.elsewhere
  pub exec : 1 ≤ C c.task
  pub periods : (j : Task) → Memᴰ j (c.higher ++ c.elsewhere) → 1 ≤ T j

-- and of a newer case beside an older one: the memory takes no less, and in any time the tasks ask for no less
pub record Worse (older newer : Case) : Type 0 where
  pub memory : Slower older.memory newer.memory
  pub own : (x : ℕ) → NoMore x x older.task newer.task
  pub others : (x : ℕ) → Paired (NoMore x x) older.higher newer.higher
  pub latest : latest older.task ≡ latest newer.task
