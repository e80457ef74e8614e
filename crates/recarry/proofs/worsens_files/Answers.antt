-- `worsens_files` meets its contract. Assumes nothing.
use mathlib.Core.Path.{◌∙◌}
use Rattle.admit_file.proofs.WasToJudge.{not_accepted, was-accepted, table_of}
use Rattle.recarry.proofs.Carrying.{older_none, newer_none, both_read}
use Rattle.recarry.proofs.worsens_files.Goals as goal

pub returns-in_default : goal.returns-in_default
returns-in_default c = older_none _ _ (not_accepted _ c.in_default.ensures).0

pub returns-in_default-read : goal.returns-in_default-read
returns-in_default-read c = newer_none _ _ (was-accepted _ c.in-Ok.ensures) (not_accepted _ c.in_default-read.ensures).0

pub returns : goal.returns
returns c =
    let first = c.in-Ok.ensures in
    let second = c.in-Ok-read.ensures in
    c.worsens.ensures ∙ both_read _ _ (was-accepted _ first) (was-accepted _ second) (table_of _ first) (table_of _ second)
