-- `code` meets its contract. Assumes nothing.
use native.Mathlib.Omega.{arith}
use Rattle.plain.specs.Codes.{salvage_code}
use Rattle.rules.specs.Chain.{refusal_of}
use Rattle.salvaging.proofs.code.Goals as goal

pub returns-in-Ok : goal.returns-in-Ok
unfolding salvage_code
returns-in-Ok c = rw c.in-Ok.is (omega arith)

pub returns-in-Err : goal.returns-in-Err
unfolding salvage_code refusal_of
returns-in-Err c = rw c.in-Err.is (omega (arith, c.code.ensures))
