-- `put_number` meets its contract: the part of the twenty places that holds the digits is put. Assumes nothing.
use native.Mathlib.Omega.{arith}
use Rattle.digits.proofs.Decimal.{spelled-part, spelled-short}
use Rattle.text.proofs.put_number.Goals as goal

pub returns : goal.returns
returns c = let made = c.spell-i.ensures in
    let put = rw (spelled-part _ _ _ made (omega arith)) at c.put_word.ensures in
    record { put = put; upper_bound = omega (arith, put.ends, spelled-short _ _ _ made (omega arith)) }
