-- The file that is written for an accepted table is whole, and the table that is read from it is that table, cleared. Assumes nothing.
use mathlib.Core.Path.{◌≡◌, refl}
use mathlib.Core.List.{◌++◌, map}
use Prim.Native.Nat.{◌+◌, ◌*◌, ◌≤◌}
use native.Mathlib.Omega.{arith}
use lib.ListN.{length, take, drop, length-append}
use lib.Seq.{take_all, drop_at, drop-drop}
use Rattle.rules.specs.declared.Table.{Table}
use Rattle.rules.specs.Tasks.{no_task, tasks_of}
use Rattle.rules.specs.File.{sets_at, records_at, record_size, record_at, file_length, record_bytes, record_task, trailer, body, encode, record_in, decode}
use Rattle.facts.proofs.Accepted.{sound}
use Rattle.facts.proofs.SoundTasks.{tasks-there}
use Rattle.laws.specs.Idioms.{below, up_to, filled, number_in, bytes_of, part}
use Rattle.laws.specs.Bytes.{Bytes, none, more}
use Rattle.laws.proofs.Bytes.{bytes-length, bytes_are, number-bytes}
use Rattle.file_claims.specs.Files.{AcceptedTable, Shape, cleared}
use Rattle.laws.proofs.ByteLists.{bytes-append, bytes-joined}
use Rattle.laws.proofs.Rows.{read_back}
use Rattle.laws.proofs.Runs.{joined-take}
use Rattle.file_claims.proofs.Codes.{number_code, task_code, record_bytes_lem, task_known}
use Rattle.facts.proofs.Came.{Whole}
use Rattle.file_claims.proofs.Whole.{trailer-length, trailed-whole}
use Rattle.file_claims.proofs.Places.{header, figure_bytes, set_bytes, task_bytes, body-parts, encode-parts, figure_ladder, set_ladder, record_ladder, sets-after-figures, records-after-sets, trailer-after-records}
use Rattle.file_claims.proofs.Widths.{figure-fits, set-fits, task-fits}

module _ {t : Table} (shape : Shape t) (passed : AcceptedTable t) where
  -- ---- the lengths of its parts

  all-figures : take 15 t.timing ≡ t.timing
  all-figures = take_all 15 t.timing (omega (arith, shape.figures))

  sets_fit : t.cores ≤ length t.sets
  sets_fit = omega (arith, (sound t passed).cores-in, shape.sets)

  header-length : length (header t) ≡ 4
  unfolding header
  header-length = refl

  figures-length : length (figure_bytes t) ≡ 30
  unfolding figure_bytes
  figures-length = rw all-figures at (joined-take (bytes_of 2) 2 (bytes-length 2) t.timing 15 (omega (arith, shape.figures)))

  sets-length : length (set_bytes t) ≡ 2 * t.cores
  unfolding set_bytes
  sets-length = joined-take (bytes_of 2) 2 (bytes-length 2) t.sets t.cores sets_fit

  tasks-length : length (task_bytes t) ≡ record_size t.fourth * t.tasks
  unfolding task_bytes
  tasks-length = joined-take (record_bytes t.fourth) (record_size t.fourth) (task_code t.fourth).sized t.task t.tasks (tasks-there t (sound t passed))

  body-length : length (body t) ≡ records_at t.fourth t.cores + record_size t.fourth * t.tasks
  body-length =
      simp (body-parts, length-append, header-length, figures-length, sets-length, tasks-length, records-after-sets, sets-after-figures)

  encode-length : length (encode t) ≡ file_length t.fourth t.cores t.tasks
  unfolding encode
  encode-length = rw (length-append (body t) (trailer (body t)), trailer-length (body t), body-length, trailer-after-records)

  -- ---- it is whole

  body-small : length (body t) ≤ 978
  unfolding records_at sets_at record_size
  body-small = omega (arith, body-length, (sound t passed).cores-in, (sound t passed).tasks-in)

  header_are : Bytes (header t)
  unfolding header
  header_are =
      let facts = sound t passed in
      let fourth = facts.fourth-low in
      more {b = t.cores} (omega (arith, facts.cores-in))
      (more {b = t.partitions} (omega (arith, facts.partitions-in))
      (more {b = t.tasks} (omega (arith, facts.tasks-in)) (more {b = t.fourth} (omega arith) none)))

  body_are : Bytes (body t)
  unfolding figure_bytes set_bytes task_bytes
  body_are =
      rw body-parts
      (bytes-append
      (bytes-append (bytes-append header_are (bytes-joined (bytes_of 2) (bytes_are 2) t.timing)) (bytes-joined (bytes_of 2) (bytes_are 2) (take t.cores t.sets)))
      (bytes-joined (record_bytes t.fourth) (record_bytes_lem t.fourth) (tasks_of t)))

  pub file_small : length (encode t) ≤ 990
  unfolding encode
  file_small = rw (length-append (body t) (trailer (body t)), trailer-length (body t)) (omega (arith, body-small))

  pub encode-whole : Whole (encode t)
  unfolding encode body
  encode-whole =
      let places = records-after-sets t.fourth t.cores in
      let sets = sets-after-figures t.fourth in
      trailed-whole body_are (omega (arith, body-length)) (omega (arith, body-small)) encode-length

  -- ---- what stands after each part

  after-header : drop 4 (encode t) ≡ figure_bytes t ++ (set_bytes t ++ (task_bytes t ++ trailer (body t)))
  after-header = rw encode-parts (drop_at (header t) _ 4 header-length)

  after-figures : drop (sets_at t.fourth) (encode t) ≡ set_bytes t ++ (task_bytes t ++ trailer (body t))
  after-figures = rw (sets-after-figures t.fourth, ← drop-drop 30 4 (encode t), after-header) (drop_at (figure_bytes t) _ 30 figures-length)

  after-sets : drop (records_at t.fourth t.cores) (encode t) ≡ task_bytes t ++ trailer (body t)
  after-sets =
      rw (records-after-sets t.fourth t.cores, ← drop-drop (2 * t.cores) (sets_at t.fourth) (encode t), after-figures)
      (drop_at (set_bytes t) _ (2 * t.cores) sets-length)

  -- ---- what is read from it

  figures-back : map (λ k. number_in (part (encode t) (4 + 2 * k) 2)) (below 15) ≡ t.timing
  unfolding figure_bytes
  figures-back =
      let rest = set_bytes t ++ (task_bytes t ++ trailer (body t)) in
      rw all-figures at
      (read_back (number_code 2) (encode t) figure_ladder 0 15 t.timing rest (omega (arith, shape.figures)) (rw all-figures after-header)
      (λ k less. number-bytes 2 _ (figure-fits t passed k less)))

  sets-back : map (λ k. number_in (part (encode t) (sets_at t.fourth + 2 * k) 2)) (below t.cores) ≡ take t.cores t.sets
  unfolding set_bytes
  sets-back =
      read_back (number_code 2) (encode t) (set_ladder t.fourth) 0 t.cores t.sets _ sets_fit after-figures
      (λ k less. number-bytes 2 _ (set-fits t passed k less))

  tasks-back : map (λ k. record_task (part (encode t) (record_at t.fourth t.cores k) (record_size t.fourth))) (up_to t.tasks) ≡ tasks_of t
  unfolding task_bytes
  tasks-back =
      read_back (task_code t.fourth) (encode t) (record_ladder t.fourth t.cores) no_task t.tasks t.task _ (tasks-there t (sound t passed)) after-sets
      (λ k less. task_known t.fourth _ (task-fits t passed k less))

  pub read_again : decode (encode t) ≡ cleared t
  unfolding decode record_in encode body cleared
  read_again = λ j. record {
    cores = t.cores;
    partitions = t.partitions;
    tasks = t.tasks;
    fourth = t.fourth;
    timing = figures-back j;
    sets = filled 8 0 (sets-back j);
    task = filled 32 no_task (tasks-back j);
  }
