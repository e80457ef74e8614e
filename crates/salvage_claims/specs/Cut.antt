-- Of an accepted file that was cut behind its first record every record that fits is kept. Assumes nothing.
use Rattle.std.specs.Prelude.{ℕ, ◌-◌, ◌/◌, ◌≤◌, ◌<◌, min, ◌≡◌, List, length, take}
use Rattle.rules.specs.File.{records_at, record_size, record_at, record_in, cores_in, tasks_in, form_in}
use Rattle.rules.specs.Salvage.{salvaging}
use Rattle.file_claims.specs.Files.{AcceptedFile}
use Rattle.salvage_claims.specs.NewFile.{Succeeds}

-- the first n bytes of an accepted file: not all of it, but its sets and its first record
pub record CutFile (s : List ℕ) (n : ℕ) : Type 0 where
  pub accepted : AcceptedFile s
  pub cut : n < length s
  pub first_record : record_at (form_in s) (cores_in s) 2 ≤ n

-- how many of its records fit into them
abbrev pub fitting : List ℕ → ℕ → ℕ
fitting s n = min (tasks_in s) ((n - records_at (form_in s) (cores_in s)) / record_size (form_in s))

pub record TakenBack (s out : List ℕ) (n : ℕ) : Type 0 where
  pub done : Succeeds (take n s) out
  pub promised : (salvaging (take n s) out).promised ≡ tasks_in s
  pub kept : (salvaging (take n s) out).kept ≡ fitting s n
  -- and they are those of the file before it was cut
  pub records : (k : ℕ) → 1 ≤ k → k ≤ fitting s n → record_in (take n s) k ≡ record_in s k

-- into any buffer of 990 bytes, which no new file exceeds
pub record Cut : Type 0 where
  pub taken_back : (s out : List ℕ) (n : ℕ) → CutFile s n → 990 ≤ length out → TakenBack s out n
