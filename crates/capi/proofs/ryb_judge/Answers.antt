-- `ryb_judge` meets its contract. Assumes nothing.
use Rattle.plain.proofs.Codes.{code_granted}
use Rattle.capi.proofs.ryb_judge.Goals as goal

pub returns-clause-value : goal.returns-clause-value
returns-clause-value c = rw (c.code.ensures, c.judge_file.ensures.value) (code_granted _ _)
