-- `status` meets its contract. Assumes nothing.
use mathlib.Core.Path.{sym}
use Rattle.facts.proofs.Chain.{asked_err}
use Rattle.receipt.proofs.Receipt.{status_whole, status_refused}
use Rattle.receipt.proofs.status.Goals as goal

pub returns-then-is_err : goal.returns-then-is_err
returns-then-is_err c = sym (status_refused _ (asked_err _ _ c.whole.ensures c.if-is_err.ensures.value))

pub returns : goal.returns
returns c = sym (status_whole _ (asked_err _ _ c.whole.ensures c.if-is_err.ensures.value))
