-- RULES 7.7 and 7.8: what is taken back of a file that was cut. Assumes nothing.
use Rattle.std.specs.Prelude.{ℕ, zero, suc, ◌+◌, Bool, cond, not, ◌&&◌, ◌||◌, List, ◌++◌, leb, ltb, eqb, length, drop}
use Rattle.rules.specs.declared.Task.{Task}
use Rattle.rules.specs.declared.Table.{Table}
use Rattle.rules.specs.declared.Refusal.{Refusal}
use Rattle.rules.specs.Results.{Salvaged}
use Rattle.rules.specs.Kinds.{marked}
use Rattle.rules.specs.Chain.{◌or_else◌, is_accepted, given}
use Rattle.rules.specs.Refusals.{core_fault, time_fault, request_fault, check_board}
use Rattle.rules.specs.File.{records_at, record_size, record_at, record_task, record_in, cores_in, tasks_in, form_in, encode, first_tasks, decode}
use Rattle.rules.specs.Operations.{check_file}

-- 17 of RULES 9.3: the file ends before its sets do. So does every file of less than four bytes, as the sets stand behind those
unfoldable pub ends_early : List ℕ → Bool
ends_early s = ltb (length s) (records_at (form_in s) (cores_in s))

-- RULES 7.7: the file reaches the end of record k; the task in it has a fault, 9, 10 or 11
unfoldable pub reaches : List ℕ → ℕ → Bool
reaches s k = leb (record_at (form_in s) (cores_in s) k + record_size (form_in s)) (length s)

unfoldable pub task_fault : ℕ → Task → Bool
task_fault cores i = core_fault cores i || time_fault i || request_fault i

unfoldable pub is_sound : List ℕ → ℕ → Bool
is_sound s k = reaches s k && not (task_fault (cores_in s) (record_task (record_in s k)))

-- of the m numbers from k on, how many pass a test before the first that does not
unfoldable pub leading : (ℕ → Bool) → ℕ → ℕ → ℕ
leading test k zero = 0
leading test k (suc m) = cond (test k) (1 + leading test (k + 1) m) 0

-- RULES 7.7: how many records are promised and how many are kept, and where it stopped
abbrev pub promised : List ℕ → ℕ
promised s = tasks_in s

unfoldable pub kept : List ℕ → ℕ
kept s = leading (is_sound s) 1 (promised s)

unfoldable pub stopped : List ℕ → ℕ
stopped s = cond (eqb (kept s) (promised s)) 0 (kept s + 1)

-- RULES 7.8: the table of the new file
unfoldable pub salvaged_table : List ℕ → Table
salvaged_table s = first_tasks s (marked (form_in s)) (kept s)

-- RULES 9.5: what salvaging into `out` meets
unfoldable pub check_salvage : List ℕ → List ℕ → Refusal
check_salvage s out =
    given 19 0 (is_accepted (check_file s))
    or_else given 17 0 (ends_early s)
    or_else check_board (decode s)
    or_else given 17 0 (eqb (kept s) 0)
    or_else given 15 0 (ltb (length out) (length (encode (salvaged_table s))))

-- RULES 9.2: a count is 0 where there is a refusal
abbrev pub unless_refused : Refusal → ℕ → ℕ
unless_refused r n = cond (is_accepted r) n 0

-- RULES 7.7: salvaging, what it answers
unfoldable pub salvaging : List ℕ → List ℕ → Salvaged
salvaging s out = record {
  refusal = check_salvage s out;
  length = unless_refused (check_salvage s out) (length (encode (salvaged_table s)));
  promised = unless_refused (check_salvage s out) (promised s);
  kept = unless_refused (check_salvage s out) (kept s);
  stopped = unless_refused (check_salvage s out) (stopped s);
}

-- RULES 7.8: and the bytes of `out` afterwards
unfoldable pub salvaged_out : List ℕ → List ℕ → List ℕ
salvaged_out s out =
    let file = encode (salvaged_table s) in
    cond (is_accepted (check_salvage s out)) (file ++ drop (length file) out) out
