-- `ryb_view` meets its contract. Assumes nothing.
use Rattle.plain.proofs.Codes.{code_granted}
use Rattle.capi.proofs.ryb_view.Goals as goal

pub returns : goal.returns
returns c = rw (c.code.ensures, c.view_refusal.ensures) (code_granted _ _)
