-- What `worsens` says of two tables, taken apart: the facts that later proofs use instead of opening the test again. They follow
-- from the test (`worsened` in proofs/Worsened.antt). Assumes nothing.
use Rattle.std.specs.Prelude.{ℕ, ◌≤◌, ◌≡◌}
use Rattle.rules.specs.declared.Task.{Task}
use Rattle.rules.specs.declared.Table.{Table}
use Rattle.laws.specs.Idioms.{entry}
use Rattle.rules.specs.Tasks.{C, T, D, H, task_of}
use Rattle.rules.specs.Cores.{set_of}

-- alike in the used places of all but the tasks
pub record Alike (a b : Table) : Type 0 where
  pub cores : a.cores ≡ b.cores
  pub partitions : a.partitions ≡ b.partitions
  pub tasks : a.tasks ≡ b.tasks
  pub fourth : a.fourth ≡ b.fourth
  pub figure : (k : ℕ) → 1 ≤ k → k ≤ 15 → entry 0 a.timing k ≡ entry 0 b.timing k
  pub set : (p : ℕ) → 1 ≤ p → p ≤ a.cores → set_of a p ≡ set_of b p

-- the same task with C and H as they were or raised, and T as it was or shortened
pub record Raised (older newer : Task) : Type 0 where
  pub core : older.core ≡ newer.core
  pub deadline : D older ≡ D newer
  pub exec : C older ≤ C newer
  pub requests : H older ≤ H newer
  pub period : T newer ≤ T older

pub record Worsened (older newer : Table) : Type 0 where
  pub board : Alike older newer
  pub task : (k : ℕ) → 1 ≤ k → k ≤ older.tasks → Raised (task_of older k) (task_of newer k)
