-- The tasks of a table and of the same table worsened, number by number: in any time the newer asks for no less. Assumes nothing.
use mathlib.Core.Bool.{not}
use Prim.Native.Nat.{ℕ, suc, ◌-◌, ◌≤◌}
use native.Mathlib.Omega.{arith}
use native.Mathlib.Nat.{le_trans}
use lib.ListN.{take}
use Rattle.rules.specs.declared.Task.{Task}
use Rattle.rules.specs.declared.Table.{Table}
use Rattle.rules.specs.Tasks.{no_task, task_of, core_of, is_on, higher, elsewhere}
use Rattle.facts.specs.Steady.{NoMore}
use Rattle.facts.specs.Sound.{SoundTask, Sound}
use Rattle.facts.specs.Worsened.{Raised, Worsened}
use Rattle.facts.proofs.SoundTasks.{task_at, tasks-there}
use Rattle.facts.proofs.Releases.{releases_shorter}
use Rattle.laws.specs.Pairs.{Paired}
use Rattle.laws.proofs.Paired.{paired_take, paired_those}

-- an older and a newer task of one number
pub record Kept (cores : ℕ) (i j : Task) : Type 0 where
  pub raised : Raised i j
  pub was : SoundTask cores i
  pub is : SoundTask cores j

pub kept_no_more : (x : ℕ) {cores : ℕ} (i j : Task) → Kept cores i j → NoMore x x i j
kept_no_more x i j h = record {
  exec = h.raised.exec;
  requests = h.raised.requests;
  often = releases_shorter i j h.raised.period (omega (arith, h.is.T_in.low)) x;
}

module _ (older newer : Table) (was : Sound older) (is : Sound newer) (worse : Worsened older newer) where
  pub kept : (k : ℕ) → 1 ≤ k → k ≤ older.tasks → Kept older.cores (task_of older k) (task_of newer k)
  kept k low high = record {
    raised = worse.task k low high;
    was = was.task-sound k low high;
    is = rw worse.board.cores (is.task-sound k low (omega (arith, worse.board.tasks)));
  }

  kept-first : (n : ℕ) → n ≤ older.tasks → Paired (Kept older.cores) (take n older.task) (take n newer.task)
  kept-first n h =
      paired_take n older.task newer.task no_task
      (le_trans h (tasks-there older was))
      (omega (arith, tasks-there newer is, worse.board.tasks))
      (λ i l. rw (← task_at older i, ← task_at newer i) (kept (suc i) (omega arith) (omega arith)))

  pub kept-elsewhere : (p : ℕ) → Paired (Kept older.cores) (elsewhere older p) (elsewhere newer p)
  unfolding elsewhere
  kept-elsewhere p =
      rw (← worse.board.tasks)
      (paired_those (λ j. not (is_on p j)) (λ j. not (is_on p j)) (λ i j h. rw h.raised.core) (kept-first older.tasks (omega arith)))

  pub kept-higher : (k : ℕ) → 1 ≤ k → k ≤ older.tasks → Paired (Kept older.cores) (higher older k) (higher newer k)
  unfolding higher
  kept-higher k low high =
      paired_those (is_on (core_of older k)) (is_on (core_of newer k))
      (λ i j h. rw (h.raised.core, (kept k low high).raised.core))
      (kept-first (k - 1) (omega arith))
