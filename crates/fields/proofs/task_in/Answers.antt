-- A record's five figures, each from its place. Assumes nothing.
use native.Mathlib.Omega.{arith}
use Rattle.rules.specs.File.{record_task}
use Rattle.laws.proofs.Parts.{number-one}
use Rattle.fields.proofs.task_in.Goals as goal

pub returns : goal.returns
unfolding record_task
returns c =
    let s = c.args.part.now in
    rw (c.le64.ensures, c.le64-2.ensures, c.le64-3.ensures, c.le32.ensures, ← number-one s 0 (omega arith))
