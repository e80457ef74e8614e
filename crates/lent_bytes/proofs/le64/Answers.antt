-- The number that the library reads out of the chunk. Assumes nothing.
use mathlib.Core.Path.{◌∙◌}
use Rattle.lent_bytes.proofs.Numbers.{chunk-number}
use Rattle.lent_bytes.proofs.le64.Goals as goal

pub returns : goal.returns
returns c = c.from_le_bytes.ensures ∙ chunk-number c.args.s.now c.unwrap.result.now c.args.at 7 c.requires (rw c.unwrap.ensures at c.first_chunk.ensures.cases)
