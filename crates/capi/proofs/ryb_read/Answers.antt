-- `ryb_read` meets its contract. Assumes nothing.
use Rattle.plain.proofs.Codes.{code_granted}
use Rattle.capi.proofs.ryb_read.Goals as goal

pub returns : goal.returns
returns c = rw (c.code.ensures, c.check.ensures) (code_granted _ _)
