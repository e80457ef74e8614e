-- What every accepted table is known to be: the bounds that later proofs use instead of opening the checks again. They follow from
-- refusals 5 to 11 and 16 (`sound` in proofs/Accepted.antt). Assumes nothing.
use Rattle.std.specs.Prelude.{ℕ, ◌≤◌, ◌<◌, ◌^◌, ◌≡◌, true, false}
use Rattle.rules.specs.declared.Task.{Task}
use Rattle.rules.specs.declared.Table.{Table}
use Rattle.laws.specs.Idioms.{entry, Within}
use Rattle.rules.specs.Timing.{Row, tCK, tRP, tRCD, CL, WL, BL, tWTR, tWR, tRRD, tFAW, tRTRS, Ncols}
use Rattle.rules.specs.Tasks.{C, T, D, H, task_of}
use Rattle.rules.specs.Cores.{set_of}
use Rattle.rules.specs.Kinds.{is_bus}
use Rattle.rules.specs.Bus.{slot}

-- a DRAM's row
pub record SoundRow (w : Row) : Type 0 where
  pub tCK_in : Within 1 5000 (tCK w)
  pub tRP_in : Within 1 127 (tRP w)
  pub tRCD_in : Within 1 127 (tRCD w)
  pub CL_in : Within 1 127 (CL w)
  pub WL_in : Within 1 127 (WL w)
  pub BL_in : Within 4 16 (BL w)
  pub tWTR_in : Within 1 127 (tWTR w)
  pub tWR_in : Within 1 127 (tWR w)
  pub tRRD_in : Within 1 127 (tRRD w)
  pub tFAW_in : Within 1 127 (tFAW w)
  pub tRTRS_in : Within 0 127 (tRTRS w)
  pub Ncols_in : Within 64 2048 (Ncols w)
  pub recovery : tWTR w ≤ tWR w

pub record SoundTask (cores : ℕ) (i : Task) : Type 0 where
  pub core_in : Within 1 cores i.core
  pub T_in : Within (10 ^ 8) (10 ^ 12) (T i)
  pub D_in : Within 1 (T i) (D i)
  pub C_in : Within 1 (D i) (C i)
  pub H-high : H i ≤ 1000000

pub record Sound (t : Table) : Type 0 where
  pub cores-in : Within 1 8 t.cores
  pub partitions-in : Within 1 16 t.partitions
  pub tasks-in : Within 1 32 t.tasks
  pub fourth-low : t.fourth < 4
  pub figure-high : (k : ℕ) → 1 ≤ k → k ≤ 15 → entry 0 t.timing k ≤ 65535
  pub row : is_bus t ≡ false → SoundRow t.timing
  pub slot-in : is_bus t ≡ true → Within 1 65535 (slot t).0
  pub set-some : (p : ℕ) → 1 ≤ p → p ≤ t.cores → 1 ≤ set_of t p
  pub set-high : (p : ℕ) → 1 ≤ p → p ≤ t.cores → set_of t p < 2 ^ t.partitions
  pub task-sound : (k : ℕ) → 1 ≤ k → k ≤ t.tasks → SoundTask t.cores (task_of t k)
