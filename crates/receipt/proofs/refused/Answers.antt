-- `refused` meets its contract. Assumes nothing.
use native.Mathlib.Omega.{arith}
use Rattle.text.proofs.Put.{front_length, front}
use Rattle.rules.specs.Listing.{refused_line}
use Rattle.receipt.proofs.refused.Goals as goal

pub returns : goal.returns
unfolding refused_line
returns c = let put = c.put_phrase-n.ensures in
    record { given = rw (front put.put (omega arith)) at c.give.ensures; number_len_bound = omega (arith, front_length put.put) }
