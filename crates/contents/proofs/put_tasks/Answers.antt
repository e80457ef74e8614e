-- The tasks of a file, place by place. Assumes nothing.
use mathlib.Core.Path.{◌≡◌}
use native.Mathlib.Omega.{arith}
use Rattle.laws.specs.Idioms.{from}
use Rattle.contents.proofs.Steps.{task-next, record_there}
use Rattle.contents.proofs.put_tasks.Goals as goal

pub loop-i-init : goal.loop-i-init
unfolding from
loop-i-init c = c.requires.none

pub record_task-requires-clause-file_in_bounds : goal.record_task-requires-clause-file_in_bounds
record_task-requires-clause-file_in_bounds c = record_there c.args.file.now c.args.n c.requires.n_in_bounds c.loop-i.i c.loop-i-test.true

pub loop-i-preserved : goal.loop-i-preserved
loop-i-preserved c =
    let l = c.loop-i in
    rw (l.invariant, c.record_task.ensures) (task-next c.args.file.now l.i (omega (arith, c.requires.n_bound)))

pub returns : goal.returns
returns c = let e : c.loop-i.i ≡ c.args.n = omega arith in rw e at c.loop-i.invariant
