-- `code` meets its contract: number and place are below 65,536. Assumes nothing.
use Rattle.rules.specs.Chain.{refusal_of}
use Rattle.recarry.specs.Files.{carry_code, refusal_carried}
use Rattle.recarry.proofs.code.Goals as goal

pub returns-in-Ok : goal.returns-in-Ok
unfolding carry_code refusal_carried
returns-in-Ok c = rw c.in-Ok.is

pub returns-in-Err : goal.returns-in-Err
unfolding carry_code refusal_carried refusal_of
returns-in-Err c = rw (c.in-Err.is, c.code.ensures, c.table_number.ensures.value)
