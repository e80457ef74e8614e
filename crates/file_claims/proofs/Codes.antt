-- The two codes of a table file: a number in k bytes, and a task in a record. Assumes nothing.
use mathlib.Core.Path.{◌≡◌, refl}
use mathlib.Core.List.{List}
use Prim.Native.Nat.{ℕ, ◌+◌, ◌^◌, ◌≤◌, ◌<◌}
use native.Mathlib.Omega.{arith}
use lib.ListN.{length}
use lib.Seq.{take_all}
use Rattle.rules.specs.declared.Task.{Task}
use Rattle.rules.specs.Units.{ps}
use Rattle.rules.specs.Tasks.{C, T, D, H}
use Rattle.rules.specs.File.{record_size, record_bytes, record_task}
use Rattle.laws.specs.Idioms.{number_in, bytes_of, part}
use Rattle.laws.specs.Bytes.{Bytes}
use Rattle.laws.proofs.Bytes.{bytes-length, bytes_are, number-bytes}
use Rattle.laws.proofs.ByteLists.{bytes-append, known_by_number, part_join, part_known}
use Rattle.laws.proofs.Rows.{Code}

pub number_code : (k : ℕ) → Code k (bytes_of k) number_in
number_code k = record { sized = bytes-length k; again = known_by_number k }

record_length : (form : ℕ) (i : Task) → length (record_bytes form i) ≡ record_size form
unfolding record_size record_bytes bytes_of
record_length form i = refl

record_again : (form : ℕ) (l : List ℕ) → Bytes l → length l ≡ record_size form → record_bytes form (record_task l) ≡ l
unfolding record_size record_bytes record_task
record_again form l b e =
    let known : (at k : ℕ) → at + k ≤ 29 → bytes_of k (number_in (part l at k)) ≡ part l at k = λ at k h. part_known l at k b (omega arith) in
    rw (known 0 1 (omega arith), known 1 8 (omega arith), known 9 8 (omega arith), known 17 8 (omega arith), known 25 4 (omega arith))
    (rw (part_join l 0 1 8, part_join l 0 9 8, part_join l 0 17 8, part_join l 0 25 4) (take_all 29 l (omega arith)))

pub task_code : (form : ℕ) → Code (record_size form) (record_bytes form) record_task
task_code form = record { sized = record_length form; again = record_again form }

pub record_bytes_lem : (form : ℕ) (i : Task) → Bytes (record_bytes form i)
unfolding record_bytes
record_bytes_lem form i =
    bytes-append (bytes-append (bytes-append (bytes-append (bytes_are 1 i.core) (bytes_are 8 (C i))) (bytes_are 8 (T i))) (bytes_are 8 (D i))) (bytes_are 4 (H i))

-- a task whose figures fit their fields
pub record Fits (i : Task) : Type 0 where
  pub core-fits : i.core < 256 ^ 1
  pub C-fits : C i < 256 ^ 8
  pub T-fits : T i < 256 ^ 8
  pub D-fits : D i < 256 ^ 8
  pub H-fits : H i < 256 ^ 4

pub task_known : (form : ℕ) (i : Task) → Fits i → record_task (record_bytes form i) ≡ i
unfolding record_bytes record_task bytes_of
task_known form i f = λ j. record {
  core = number-bytes 1 i.core f.core-fits j;
  exec = ps (number-bytes 8 (C i) f.C-fits j);
  period = ps (number-bytes 8 (T i) f.T-fits j);
  deadline = ps (number-bytes 8 (D i) f.D-fits j);
  requests = number-bytes 4 (H i) f.H-fits j;
}
