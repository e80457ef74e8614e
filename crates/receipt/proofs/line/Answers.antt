-- `line` meets its contract. Assumes nothing.
use mathlib.Core.Path.{sym}
use native.Mathlib.Omega.{arith}
use Rattle.facts.proofs.Chain.{was-allowed, was-denied}
use Rattle.receipt.proofs.Receipt.{receipt-whole, receipt-refused}
use Rattle.receipt.proofs.line.Goals as goal

pub returns-in-Ok : goal.returns-in-Ok
returns-in-Ok c = let is = receipt-whole _ (was-allowed _ _ (sym c.in-Ok.ensures)).0 in
    record { given = rw is c.give.ensures; file_len_bound = rw is (omega arith) }

pub returns-in-Err : goal.returns-in-Err
returns-in-Err c =
    let was = was-denied _ _ (sym c.in-Err.ensures) in
    let is = c.refused.ensures in
    rw (receipt-refused _ was.0, was.1) (record { given = is.given; file_len_bound = is.number_len_bound })
