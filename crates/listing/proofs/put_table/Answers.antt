-- `put_table` meets its contract: three texts one after the other. Assumes nothing.
use native.Mathlib.Omega.{arith}
use Rattle.text.proofs.Put.{◌then◌}
use Rattle.listing.proofs.TableLines.{table-lines}
use Rattle.listing.proofs.put_table.Goals as goal

pub returns : goal.returns
returns c = let put = c.put_word-head.ensures then c.put_rows-end.ensures.put then rw c.first_miss.ensures at c.put_last.ensures.put in
    record { put = rw table-lines put; upper_bound = omega (arith, c.put_word-head.ensures.ends) }
