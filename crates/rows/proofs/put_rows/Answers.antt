-- `put_rows` meets its contract. The invariant: the lines of the tasks passed have been put. Assumes nothing.
use mathlib.Core.Path.{◌≡◌}
use native.Mathlib.Omega.{arith}
use borrow.Author.Rules.{rules}
use Rattle.text.proofs.Put.{nothing, ◌then◌}
use Rattle.rows.proofs.TaskLines.{rows_none, rows_next}
use Rattle.rows.proofs.put_rows.Goals as goal

pub loop-i-init : goal.loop-i-init
loop-i-init c = (search rules, search rules, rw rows_none (nothing _ _))

pub loop-i-preserved : goal.loop-i-preserved
loop-i-preserved c =
    (search rules, omega arith, rw rows_next (c.loop-i.invariant.2 then c.put_row-end.ensures.put))
