-- No record of an accepted file is at fault. Assumes nothing.
use mathlib.Core.Path.{◌≡◌}
use mathlib.Core.Bool.{true, false}
use mathlib.Core.List.{List}
use Prim.Native.Nat.{ℕ, ◌^◌, ◌≤◌}
use borrow.Author.Tests.{le-leb, le-ltb}
use Rattle.laws.proofs.Places.{place_of}
use Rattle.rules.specs.declared.Task.{Task}
use Rattle.rules.specs.Tasks.{C, T, D, H, no_task, task_of}
use Rattle.rules.specs.Chain.{is_accepted}
use Rattle.rules.specs.Refusals.{core_fault, time_fault, request_fault, check_table}
use Rattle.rules.specs.File.{record_task, record_in, cores_in, tasks_in, decode}
use Rattle.rules.specs.Salvage.{task_fault}
use Rattle.facts.specs.Sound.{SoundTask}
use Rattle.facts.proofs.Accepted.{sound}

sound_faultless : (cores : ℕ) (i : Task) → SoundTask cores i → task_fault cores i ≡ false
unfolding task_fault core_fault time_fault request_fault
sound_faultless cores i f =
    rw (
      le-leb 1 i.core f.core_in.low,
      le-leb i.core cores f.core_in.high,
      le-leb (10 ^ 8) (T i) f.T_in.low,
      le-leb (T i) (10 ^ 12) f.T_in.high,
      le-leb 1 (D i) f.D_in.low,
      le-leb (D i) (T i) f.D_in.high,
      le-leb 1 (C i) f.C_in.low,
      le-leb (C i) (D i) f.C_in.high,
      le-ltb 1000000 (H i) f.H-high,
    )

module _ (s : List ℕ) (passed : is_accepted (check_table (decode s)) ≡ true) (k : ℕ) (low : 1 ≤ k) (high : k ≤ tasks_in s) where
  task-read : task_of (decode s) k ≡ record_task (record_in s k)
  unfolding decode
  task-read = place_of no_task (λ k. record_task (record_in s k)) 32 (tasks_in s) k low high

  pub record_faultless : task_fault (cores_in s) (record_task (record_in s k)) ≡ false
  unfolding decode
  record_faultless = rw task-read at (sound_faultless (cores_in s) (task_of (decode s) k) ((sound (decode s) passed).task-sound k low high))
