-- The parts of a body, each stored after the one before. Assumes nothing.
use mathlib.Core.Path.{◌≡◌}
use mathlib.Core.List.{List, ◌++◌, map}
use Prim.Native.Nat.{ℕ, ◌+◌, ◌≤◌}
use native.Mathlib.Omega.{arith}
use lib.ListN.{length, length-append, take}
use lib.Seq.{sets}
use Rattle.rules.specs.declared.Table.{Table}
use Rattle.rules.specs.Tasks.{tasks_of}
use Rattle.rules.specs.File.{sets_at, records_at, record_size, file_length, record_bytes, body}
use Rattle.laws.specs.Idioms.{joined, bytes_of}
use Rattle.laws.proofs.Bytes.{bytes-length}
use Rattle.laws.proofs.Runs.{sets-after, joined_length, joined-take}
use Rattle.places.proofs.Places.{records_are}
use Rattle.records.proofs.Record.{record_length}
use Rattle.encode.specs.Counts.{counts}

-- a table's arrays, and counts that they have room for
module _ (t : Table) (figures : length t.timing ≡ 15) (places : length t.sets ≡ 8) (cores : t.cores ≤ 8) where
  timing_bytes : List ℕ
  timing_bytes = joined (map (bytes_of 2) t.timing)

  sets-bytes : List ℕ
  sets-bytes = joined (map (bytes_of 2) (take t.cores t.sets))

  -- the sets start after the counts and the timing figures, and the records after the sets
  timing_ends : length (counts t ++ timing_bytes) ≡ sets_at t.fourth
  unfolding timing_bytes sets_at
  timing_ends = rw length-append (omega (arith, joined_length (bytes_of 2) 2 (bytes-length 2) t.timing))

  sets_end : length (counts t ++ timing_bytes ++ sets-bytes) ≡ records_at t.fourth t.cores
  unfolding sets-bytes
  sets_end =
      rw (length-append (counts t ++ timing_bytes) sets-bytes, timing_ends, joined-take (bytes_of 2) 2 (bytes-length 2) t.sets t.cores (omega arith), records_are)

  pub body_stores : (out : List ℕ)
      → sets (sets (sets (sets out 0 (counts t)) 4 (joined (map (bytes_of 2) t.timing))) (sets_at t.fourth) (joined (map (bytes_of 2) (take t.cores t.sets))))
      (records_at t.fourth t.cores)
      (joined (map (record_bytes t.fourth) (tasks_of t)))
      ≡ sets out 0 (body t)
  unfolding body timing_bytes sets-bytes
  body_stores out =
      let timing = sets-after (counts t) timing_bytes out 0 4 (omega arith) in
      let sets = sets-after (counts t ++ timing_bytes) sets-bytes out 0 (sets_at t.fourth) (omega (arith, timing_ends)) in
      rw (timing, sets)
      (sets-after (counts t ++ timing_bytes ++ sets-bytes) (joined (map (record_bytes t.fourth) (tasks_of t))) out 0 (records_at t.fourth t.cores) (omega (arith, sets_end)))

  pub body-length : t.tasks ≤ length t.task → file_length t.fourth t.cores t.tasks ≡ length (body t) + 12
  unfolding body timing_bytes sets-bytes file_length
  body-length tasks =
      let form = t.fourth in
      rw length-append (omega (arith, joined-take (record_bytes form) (record_size form) (record_length form) t.task t.tasks tasks, sets_end))
