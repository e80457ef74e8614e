-- `ryb_whole` meets its contract. Assumes nothing.
use Rattle.plain.proofs.Codes.{code_granted}
use Rattle.capi.proofs.ryb_whole.Goals as goal

pub returns : goal.returns
returns c = rw (c.code.ensures, c.whole.ensures) (code_granted _ _)
