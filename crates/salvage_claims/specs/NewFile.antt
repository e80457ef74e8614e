-- What salvaging gives (RULES 7.7, 7.8): a file that reading accepts, with the first records of the cut one, none of them altered; and that the record
-- after them is missing or at fault. Assumes nothing.
use Rattle.std.specs.Prelude.{ℕ, ◌+◌, ◌-◌, ◌≤◌, ◌<◌, ◌≡◌, true, false, ◌⊎◌, ◌↔◌, ◌≢◌, List, length, take, drop}
use Rattle.laws.specs.Idioms.{part}
use Rattle.laws.specs.Bytes.{Bytes}
use Rattle.rules.specs.Kinds.{says_bus, marked, is_salvaged}
use Rattle.rules.specs.Chain.{accepted, is_accepted}
use Rattle.rules.specs.File.{record_size, record_at, record_task, record_in, cores_in, tasks_in, form_in, first_tasks}
use Rattle.rules.specs.Operations.{reading}
use Rattle.rules.specs.Salvage.{task_fault, salvaging, salvaged_out}

-- salvaging is not refused
abbrev pub Succeeds : List ℕ → List ℕ → Type 0
Succeeds s out = is_accepted (salvaging s out).refusal ≡ true

-- the new file, in the front of the buffer
abbrev pub new_file : List ℕ → List ℕ → List ℕ
new_file s out = take (salvaging s out).length (salvaged_out s out)

-- where the last kept record ends, in the cut file and in the new one
abbrev pub kept_end : List ℕ → List ℕ → ℕ
kept_end s out = record_at (form_in s) (cores_in s) ((salvaging s out).kept + 1)

pub record NewFile (s out : List ℕ) : Type 0 where
  -- reading accepts it: the figures are the cut file's, with the first records of it and bit 1 set
  pub read : reading (new_file s out) ≡ record { refusal = accepted; table = first_tasks s (marked (form_in s)) (salvaging s out).kept }
  pub says_so : is_salvaged (reading (new_file s out)).table ≡ true
  pub same_kind : says_bus (marked (form_in s)) ≡ says_bus (form_in s)
  -- from the timing figures to the end of the last kept record no byte is altered, and so no kept record is
  pub bytes_stay : Bytes s → part (new_file s out) 4 (kept_end s out - 4) ≡ part s 4 (kept_end s out - 4)
  pub record_stays : Bytes s → (k : ℕ) → 1 ≤ k → k ≤ (salvaging s out).kept → record_in (new_file s out) k ≡ record_in s k
  -- and it fits the buffer, of which the bytes behind it stay
  pub fits : (salvaging s out).length ≤ length out
  pub rest-stays : drop (salvaging s out).length (salvaged_out s out) ≡ drop (salvaging s out).length out

-- record k is missing: the file ends before it does; or it is at fault, by 9, 10 or 11
abbrev pub Lacks : List ℕ → ℕ → Type 0
Lacks s k =
    (length s < record_at (form_in s) (cores_in s) k + record_size (form_in s))
    ⊎ (task_fault (cores_in s) (record_task (record_in s k)) ≡ true)

pub record Counts (s out : List ℕ) : Type 0 where
  pub promised : (salvaging s out).promised ≡ tasks_in s
  pub some : 1 ≤ (salvaging s out).kept
  pub no_more : (salvaging s out).kept ≤ (salvaging s out).promised
  pub kept : (k : ℕ) → 1 ≤ k → k ≤ (salvaging s out).kept → ¬ Lacks s k
  -- it stopped nowhere exactly if all are kept
  pub all : ((salvaging s out).stopped ≡ 0) ↔ ((salvaging s out).kept ≡ (salvaging s out).promised)
  -- and else at the record after those that are kept, which is one of those promised, and is missing or at fault
  pub next : (salvaging s out).stopped ≢ 0 → (salvaging s out).stopped ≡ (salvaging s out).kept + 1
  pub there : (salvaging s out).stopped ≤ (salvaging s out).promised
  pub lacks : (salvaging s out).stopped ≢ 0 → Lacks s (salvaging s out).stopped

-- RULES 9.2: what a refused salvage gives; the lent buffer is as it was
pub record Nothing (s out : List ℕ) : Type 0 where
  pub length : (salvaging s out).length ≡ 0
  pub promised : (salvaging s out).promised ≡ 0
  pub kept : (salvaging s out).kept ≡ 0
  pub stopped : (salvaging s out).stopped ≡ 0
  pub lent_bytes : salvaged_out s out ≡ out

pub record Salvaging : Type 0 where
  pub new-file : (s out : List ℕ) → Succeeds s out → NewFile s out
  pub counts : (s out : List ℕ) → Succeeds s out → Counts s out
  pub refused : (s out : List ℕ) → is_accepted (salvaging s out).refusal ≡ false → Nothing s out
