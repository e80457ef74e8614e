-- `salvage_told` meets its contract. Assumes nothing.
use Rattle.salvaging.proofs.Links.{told_is}
use Rattle.salvaging.proofs.salvage_told.Goals as goal

pub code-requires : goal.code-requires
code-requires c = rw (c.salvage.ensures.answered, told_is) c.salvage.ensures.small

pub returns : goal.returns
returns c = record { value = rw (c.code.ensures, c.salvage.ensures.answered, told_is); out_after = c.salvage.ensures.stored }
