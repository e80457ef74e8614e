-- `give` meets its contract. Assumes nothing.
use native.Mathlib.Omega.{arith}
use Rattle.text.proofs.Put.{given-whole}
use Rattle.text.proofs.give.Goals as goal

pub returns : goal.returns
returns c = given-whole _ _ (omega arith) c.put_word.ensures
