-- The records of the tasks, stored place by place. Assumes nothing.
use mathlib.Core.Path.{◌≡◌}
use mathlib.Core.List.{map}
use lib.ListN.{length, take}
use lib.Seq.{sets}
use Rattle.rules.specs.File.{records_at, record_bytes}
use Rattle.laws.specs.Idioms.{joined}
use Rattle.records.proofs.put_tasks.Given as goal

abbrev pub invariant-loop-i : goal.invariant-loop-i
invariant-loop-i l = (length l.out ≡ length l.initial.out) × (l.out ≡ sets l.initial.out (records_at l.form l.cores) (joined (map (record_bytes l.form) (take l.i l.tasks))))
