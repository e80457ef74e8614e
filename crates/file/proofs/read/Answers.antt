-- The first part, then the second. Assumes nothing.
use mathlib.Core.Path.{sym, ◌∙◌}
use Rattle.rules.specs.Operations.{check_file}
use Rattle.facts.proofs.Chain.{stops_at, goes_on_to, was-allowed}
use Rattle.facts.proofs.Reading.{read_is}
use Rattle.file.proofs.Reading.{taken}
use Rattle.file.proofs.read.Goals as goal

pub returns-in_err-whole : goal.returns-in_err-whole
unfolding check_file
returns-in_err-whole c = stops_at _ _ _ _ c.from_residual.ensures.1 c.in_err-whole.ensures ∙ sym (read_is _)

pub take-requires : goal.take-requires
take-requires c = (was-allowed _ _ (sym c.in_ok-whole.ensures)).0

pub returns : goal.returns
unfolding check_file
returns c = goes_on_to _ _ _ _ c.in_ok-whole.ensures (c.take.ensures ∙ taken _) ∙ sym (read_is _)
