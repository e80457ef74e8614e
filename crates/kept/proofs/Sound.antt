-- Whether a record is sound, as code looks: at where it ends, and then at its task. Assumes nothing.
use mathlib.Core.Path.{◌≡◌}
use mathlib.Core.Bool.{false, not}
use mathlib.Core.List.{List}
use Prim.Native.Nat.{ℕ, ◌+◌, ◌≤◌, ◌<◌}
use lib.ListN.{length}
use borrow.Author.Tests.{le-leb, lt-leb}
use Rattle.rules.specs.File.{record_size, record_at, record_task, record_in, cores_in, form_in}
use Rattle.rules.specs.Salvage.{reaches, task_fault, is_sound}

module _ (s : List ℕ) (k : ℕ) where
  pub cut_off : length s < record_at (form_in s) (cores_in s) k + record_size (form_in s) → false ≡ is_sound s k
  unfolding is_sound reaches
  cut_off h = rw (lt-leb (record_at (form_in s) (cores_in s) k + record_size (form_in s)) (length s) h)

  pub by_fault : record_at (form_in s) (cores_in s) k + record_size (form_in s) ≤ length s
      → not (task_fault (cores_in s) (record_task (record_in s k))) ≡ is_sound s k
  unfolding is_sound reaches
  by_fault h = rw (le-leb (record_at (form_in s) (cores_in s) k + record_size (form_in s)) (length s) h)
