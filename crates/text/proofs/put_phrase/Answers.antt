-- `put_phrase` meets its contract: two texts one after the other. Assumes nothing.
use native.Mathlib.Omega.{arith}
use Rattle.text.proofs.Put.{◌then◌}
use Rattle.text.proofs.put_phrase.Goals as goal

pub returns : goal.returns
returns c = record { put = c.put_word-end.ensures then c.put_field.ensures.put; upper_bound = omega (arith, c.put_word-end.ensures.ends) }
