-- The test of a figure of a bus's row, of the first and of another. Assumes nothing.
use native.Mathlib.Omega.{arith}
use lib.ListN.{get_or}
use mir.Syntax.{w16}
use mir.Val.{Fits}
use borrow.Author.Rules.{rules}
use borrow.Author.Tests.{ne_eqb}
use Rattle.rules.specs.Bus.{slot_in}
use Rattle.rules.specs.Refusals.{bus_fault}
use Rattle.timing.proofs.Bus.{none_above}
use Rattle.timing.proofs.bus_fault.Goals as goal

pub returns-then-k-eq1 : goal.returns-then-k-eq1
unfolding bus_fault slot_in
returns-then-k-eq1 c =
    let h : Fits w16 (get_or c.args.row 0 0) = search rules in
    rw c.if-k-eq1.true (none_above (get_or c.args.row 0 0) (omega arith))

pub returns-else-k-eq1 : goal.returns-else-k-eq1
unfolding bus_fault
returns-else-k-eq1 c = rw (ne_eqb _ 1 c.if-k-eq1.false)
