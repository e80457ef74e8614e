-- `ryb_carry` meets its contract. Assumes nothing.
use Rattle.recarry.proofs.Coded.{carried_code}
use Rattle.capi.proofs.ryb_carry.Goals as goal

pub returns-clause-value : goal.returns-clause-value
returns-clause-value c = rw (c.code.ensures, c.carry_files.ensures.value) (carried_code _ _ _ _ _)
