-- What points 1 and 2 of docs/CLAIMS.md demand of table files, said of the rules' own definitions: a record is a demand and its fields are
-- the clauses. Assumes nothing.
use Rattle.std.specs.Prelude.{ℕ, ◌≤◌, ◌<◌, ◌≡◌, ◌≢◌, true, false, List, ◌++◌, length, take, drop, get_or, set}
use Rattle.rules.specs.declared.Table.{Table}
use Rattle.rules.specs.declared.Refusal.{Refusal}
use Rattle.rules.specs.Tasks.{no_task, tasks_of}
use Rattle.rules.specs.Chain.{accepted, is_accepted}
use Rattle.rules.specs.Refusals.{check_table}
use Rattle.rules.specs.File.{check_whole, encode}
use Rattle.rules.specs.Operations.{reading, writing, out_after}
use Rattle.rules.specs.Figures.{listed}
use Rattle.laws.specs.Idioms.{filled}
use Rattle.laws.specs.Bytes.{Bytes}

-- a file that reading accepts; a table that is accepted
abbrev pub AcceptedFile : List ℕ → Type 0
AcceptedFile s = is_accepted (reading s).refusal ≡ true

abbrev pub AcceptedTable : Table → Type 0
AcceptedTable t = is_accepted (check_table t) ≡ true

-- a check of files, by what it refuses: whether they came whole, and reading
abbrev pub Check : Type 0
Check = List ℕ → Refusal

abbrev pub read_check : Check
read_check s = (reading s).refusal

-- point 1, of a check: what it accepts it refuses when cut short, and with any one byte altered
pub record Damage (check : Check) : Type 0 where
  pub cut_short : (s : List ℕ) → is_accepted (check s) ≡ true → (n : ℕ) → n < length s → is_accepted (check (take n s)) ≡ false
  pub one_byte : (s : List ℕ) → Bytes s → is_accepted (check s) ≡ true
      → (i b : ℕ) → i < length s → b < 256 → b ≢ get_or s i 0 → is_accepted (check (set s i b)) ≡ false

-- of both: a whole file that is damaged so did not come whole, and an accepted one is refused
pub record PointOne : Type 0 where
  pub whole : Damage check_whole
  pub read : Damage read_check

-- the shape in which code holds every table: RULES 2.7
pub record Shape (t : Table) : Type 0 where
  pub figures : length t.timing ≡ 15
  pub sets : length t.sets ≡ 8
  pub tasks : length t.task ≡ 32

-- a table with the places beyond its counts zero
unfoldable pub cleared : Table → Table
cleared t = record {
  cores = t.cores;
  partitions = t.partitions;
  tasks = t.tasks;
  fourth = t.fourth;
  timing = t.timing;
  sets = filled 8 0 (take t.cores t.sets);
  task = filled 32 no_task (tasks_of t);
}

-- point 2: a table comes back from its file, and a file from its table
pub record Return : Type 0 where
  pub read_written : (t : Table) → Shape t → AcceptedTable t → reading (encode t) ≡ record { refusal = accepted; table = cleared t }
  pub written_read : (s : List ℕ) → Bytes s → AcceptedFile s → encode (reading s).table ≡ s
  -- RULES 2.7: what reading leaves in unused places
  pub unused_zero : (s : List ℕ) → cleared (reading s).table ≡ (reading s).table
  -- so a read table can be written
  pub shape-read : (s : List ℕ) → Shape (reading s).table

-- The same, by way of a lent buffer that is long enough, as RULES 7.4 writes into it.
pub record ReturnInPlace : Type 0 where
  pub read_written : (t : Table) (out : List ℕ) → Shape t → AcceptedTable t → length (encode t) ≤ length out
      → reading (take (writing t out).length (out_after t out)) ≡ record { refusal = accepted; table = cleared t }
  pub written_read : (s out : List ℕ) → Bytes s → AcceptedFile s → length s ≤ length out
      → ((writing (reading s).table out).length ≡ length s) × (out_after (reading s).table out ≡ s ++ drop (length s) out)
  pub room : (t : Table) → Shape t → AcceptedTable t → length (encode t) ≤ 990
  -- what is written fits, whatever the table
  pub fits : (t : Table) (out : List ℕ) → (writing t out).length ≤ length out
  pub rest-stays : (t : Table) (out : List ℕ) → drop (writing t out).length (out_after t out) ≡ drop (writing t out).length out

-- A file is of one table, and a table of one file.
pub record OneToOne : Type 0 where
  pub one_table : (t u : Table) → Shape t → Shape u → AcceptedTable t → AcceptedTable u → encode t ≡ encode u → cleared t ≡ cleared u
  pub one_file : (s r : List ℕ) → Bytes s → Bytes r → AcceptedFile s → AcceptedFile r → (reading s).table ≡ (reading r).table → s ≡ r

-- The demands speak of something: the table of the listed figures has the shape, and it is accepted.
pub record NotEmpty : Type 0 where
  pub shape : Shape listed
  pub passed : AcceptedTable listed
