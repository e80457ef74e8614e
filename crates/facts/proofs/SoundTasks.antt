-- Every task of a sound table is sound: so are the higher tasks of a core and the tasks elsewhere. Assumes nothing.
use mathlib.Core.Path.{◌≡◌}
use mathlib.Core.Bool.{not}
use mathlib.Core.List.{Memᴰ}
use Prim.Native.Nat.{ℕ, suc, ◌-◌, ◌≤◌}
use native.Mathlib.Omega.{arith}
use native.Mathlib.Decide.{dec_le}
use lib.ListN.{length, take, get_or, get_or-eq_default}
use Rattle.rules.specs.declared.Task.{Task}
use Rattle.rules.specs.declared.Table.{Table}
use Rattle.rules.specs.Tasks.{no_task, tasks_of, task_of, core_of, is_on, higher, elsewhere}
use Rattle.facts.specs.Sound.{Sound, SoundTask}
use Rattle.laws.proofs.Members.{member_those, member_take}

-- places of the list are counted from 0, tasks from 1
pub task_at : (t : Table) (i : ℕ) → task_of t (suc i) ≡ get_or t.task i no_task
task_at t i = let less : suc i - 1 ≡ i = omega arith in rw less

module _ (t : Table) (s : Sound t) where
  sound-first : (n : ℕ) → n ≤ t.tasks → {j : Task} → Memᴰ j (take n t.task) → SoundTask t.cores j
  sound-first n h m =
      let place = member_take n t.task no_task m in
      rw place.2 (rw (task_at t place.0) at (s.task-sound (suc place.0) (omega arith) (omega arith)))

  pub sound-all : {j : Task} → Memᴰ j (tasks_of t) → SoundTask t.cores j
  sound-all m = sound-first t.tasks (omega arith) m

  pub sound-elsewhere : (p : ℕ) {j : Task} → Memᴰ j (elsewhere t p) → SoundTask t.cores j
  unfolding elsewhere
  sound-elsewhere p m = sound-all (member_those (λ j. not (is_on p j)) (tasks_of t) m).0

  pub sound-higher : (k : ℕ) → k ≤ t.tasks → {j : Task} → Memᴰ j (higher t k) → SoundTask t.cores j
  unfolding higher
  sound-higher k h m = sound-first (k - 1) (omega arith) (member_those (is_on (core_of t k)) (take (k - 1) t.task) m).0

  -- a place beyond the list would have no task, and no task has no core
  pub tasks-there : t.tasks ≤ length t.task
  tasks-there = go (dec_le t.tasks (length t.task))
    where
      go : Dec (t.tasks ≤ length t.task) → t.tasks ≤ length t.task
      go (yes h) = h
      go (no h) =
          let last = (s.task-sound t.tasks s.tasks-in.low (omega arith)).core_in.low in
          absurd (omega (arith, rw (get_or-eq_default t.task no_task {n = t.tasks - 1} (omega arith)) at last))
