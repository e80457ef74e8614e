-- The table of the first records of a file that reaches past them: its bytes are those of the file. So the table that is read from a whole file is
-- written as that file. Assumes nothing.
use mathlib.Core.Path.{◌≡◌, refl, sym, ◌∙◌}
use mathlib.Core.List.{List, [], ◌∷◌, ◌++◌, map}
use Prim.Native.Nat.{ℕ, ◌+◌, ◌*◌, ◌-◌, ◌≤◌}
use native.Mathlib.Omega.{arith}
use lib.ListN.{length, take}
use lib.Seq.{take-add}
use Rattle.rules.specs.declared.Task.{Task}
use Rattle.rules.specs.Tasks.{no_task}
use Rattle.rules.specs.File.{sets_at, records_at, record_size, record_bytes, record_task, body, encode, cores_in, partitions_in, tasks_in, form_in, record_in, first_tasks, decode}
use Rattle.facts.proofs.Accepted.{sound}
use Rattle.laws.specs.Idioms.{from, filled, number_in, part}
use Rattle.laws.specs.Bytes.{Bytes}
use Rattle.file_claims.specs.Files.{AcceptedTable, Shape, cleared}
use Rattle.laws.proofs.Runs.{length-map-from}
use Rattle.laws.proofs.Filled.{filled-length, take-filled}
use Rattle.laws.proofs.Rows.{written_back}
use Rattle.file_claims.proofs.Codes.{number_code, task_code}
use Rattle.facts.proofs.Came.{Whole}
use Rattle.file_claims.proofs.Whole.{before, before_and_trailer}
use Rattle.file_claims.proofs.Places.{header, figure_bytes, set_bytes, task_bytes, body-parts, figure_ladder, set_ladder, record_ladder, sets-after-figures, records-after-sets, trailer-after-records, parts-joined}

module _ (s : List ℕ) where
  set_in : ℕ → ℕ
  set_in k = number_in (part s (sets_at (form_in s) + 2 * k) 2)

  task_in : ℕ → Task
  task_in k = record_task (record_in s k)

-- ---- the table of the first n records

module _ (s : List ℕ) (fourth n : ℕ) where
  pub already_cleared : cleared (first_tasks s fourth n) ≡ first_tasks s fourth n
  unfolding cleared set_in task_in
  already_cleared = λ j. record {
    cores = cores_in s;
    partitions = partitions_in s;
    tasks = n;
    fourth = fourth;
    timing = (first_tasks s fourth n).timing;
    sets = filled 8 0 (take-filled 8 0 (set_in s) 0 (cores_in s) j);
    task = filled 32 no_task (take-filled 32 no_task (task_in s) 1 n j);
  }

  pub shape_of_read : AcceptedTable (first_tasks s fourth n) → Shape (first_tasks s fourth n)
  unfolding set_in task_in from
  shape_of_read passed = record {
    figures = refl;
    sets = filled-length 8 0 (map (set_in s) (from 0 (cores_in s))) (rw (length-map-from (set_in s) (cores_in s) 0) (sound (first_tasks s fourth n) passed).cores-in.high);
    tasks = filled-length 32 no_task (map (task_in s) (from 1 n)) (rw (length-map-from (task_in s) n 1) (sound (first_tasks s fourth n) passed).tasks-in.high);
  }

-- its bytes, where its fourth byte gives records as the file's does, and the file reaches past them
module _ {s : List ℕ} (b : Bytes s) (fourth n : ℕ) (same : record_bytes fourth ≡ record_bytes (form_in s))
    (reach : records_at (form_in s) (cores_in s) + record_size (form_in s) * n ≤ length s) where
  figures-read : figure_bytes (first_tasks s fourth n) ≡ part s 4 30
  unfolding figure_bytes
  figures-read =
      written_back (number_code 2) s figure_ladder 15 b
      (omega (arith, records-after-sets (form_in s) (cores_in s), sets-after-figures (form_in s)))

  sets-read : set_bytes (first_tasks s fourth n) ≡ part s (sets_at (form_in s)) (2 * cores_in s)
  unfolding set_bytes set_in
  sets-read =
      rw (take-filled 8 0 (set_in s) 0 (cores_in s))
      (written_back (number_code 2) s (set_ladder (form_in s)) (cores_in s) b (omega (arith, records-after-sets (form_in s) (cores_in s))))

  tasks-read : task_bytes (first_tasks s fourth n) ≡ part s (records_at (form_in s) (cores_in s)) (record_size (form_in s) * n)
  unfolding task_bytes task_in record_in
  tasks-read =
      rw (same, take-filled 32 no_task (task_in s) 1 n)
      (written_back (task_code (form_in s)) s (record_ladder (form_in s) (cores_in s)) n b reach)

  pub body-read : body (first_tasks s fourth n) ≡ header (first_tasks s fourth n) ++ part s 4 (records_at (form_in s) (cores_in s) + record_size (form_in s) * n - 4)
  body-read =
      rw (body-parts (first_tasks s fourth n), figures-read, sets-read, tasks-read)
      (parts-joined (form_in s) (cores_in s) (record_size (form_in s) * n) s (header (first_tasks s fourth n)))

-- ---- and of a whole file

header-bytes : (l : List ℕ) → 4 ≤ length l → cores_in l ∷ partitions_in l ∷ tasks_in l ∷ form_in l ∷ [] ≡ take 4 l
header-bytes [] h = absurd (omega arith)
header-bytes (a ∷ []) h = absurd (omega arith)
header-bytes (a ∷ b ∷ []) h = absurd (omega arith)
header-bytes (a ∷ b ∷ c ∷ []) h = absurd (omega arith)
header-bytes (a ∷ b ∷ c ∷ d ∷ l) h = refl

module _ {s : List ℕ} (b : Bytes s) (w : Whole s) where
  size : length s ≡ records_at (form_in s) (cores_in s) + record_size (form_in s) * tasks_in s + 12
  size = rw (← trailer-after-records (form_in s) (cores_in s) (tasks_in s)) w.sized

  header_read : header (decode s) ≡ take 4 s
  unfolding header decode
  header_read = header-bytes s (omega (arith, w.long))

  whole-body : body (decode s) ≡ before s
  unfolding decode
  whole-body =
      let end = records_at (form_in s) (cores_in s) + record_size (form_in s) * tasks_in s in
      let e : length s - 12 ≡ 4 + (end - 4) = omega (arith, size, w.long) in
      body-read b (form_in s) (tasks_in s) refl (omega (arith, size)) ∙ rw (header_read, e, take-add 4 (end - 4) s)

  pub written_again : encode (decode s) ≡ s
  unfolding encode
  written_again = rw whole-body (sym (before_and_trailer b w))
