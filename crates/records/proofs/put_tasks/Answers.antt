-- The records of the tasks, stored place by place. Assumes nothing.
use Prim.Native.Nat.{◌+◌, ◌*◌}
use mathlib.Core.Path.{◌≡◌, ◌∙◌}
use native.Mathlib.Omega.{arith}
use borrow.Author.Rules.{rules}
use lib.ListN.{length}
use Rattle.rules.specs.Tasks.{no_task}
use Rattle.rules.specs.File.{records_at, record_size, record_bytes}
use Rattle.laws.proofs.Runs.{store_next}
use Rattle.places.proofs.Places.{record_limit, record-place, record_within}
use Rattle.records.proofs.Record.{record_length}
use Rattle.records.proofs.put_tasks.Goals as goal

pub put_task-requires : goal.put_task-requires
put_task-requires c =
    let a = c.args in
    omega (arith, c.record_at.ensures.value, record_limit a.form, record_within a.form a.cores c.loop-i.i (length a.tasks.now) (omega arith))

pub loop-i-preserved : goal.loop-i-preserved
loop-i-preserved c =
    let l = c.loop-i in
    let a = c.args in
    let at : c.record_at.result ≡ records_at a.form a.cores + record_size a.form * l.i = c.record_at.ensures.value ∙ record-place a.form a.cores l.i in
    let more = store_next (record_bytes a.form) (record_size a.form) (record_length a.form) a.out.now (records_at a.form a.cores) a.tasks.now l.i no_task (omega arith) in
    (search rules, rw (c.put_task.ensures, at, l.invariant.1) more)
