-- `accepted_lines` meets its contract. Assumes nothing.
use mathlib.Core.Path.{sym}
use native.Mathlib.Omega.{arith}
use borrow.Author.Rules.{rules}
use lib.Seq.{length-take-le}
use Rattle.facts.proofs.Starts.{judged-sound}
use Rattle.text.proofs.Put.{front_length, front}
use Rattle.listing.proofs.accepted_lines.Goals as goal

pub returns : goal.returns
returns c = let put = c.put_table-n.ensures in
    record { given = rw (front put.put (omega arith)) at c.give.ensures; answers_len_bound = omega (arith, front_length put.put) }

pub put_table-n-requires : goal.put_table-n-requires
put_table-n-requires c = record { tasks_bound = (judged-sound _ c.requires).tasks-in.high; in_bounds = search rules }

pub slice_bounds-give-end : goal.slice_bounds-give-end
slice_bounds-give-end c = sym (length-take-le _ _ (omega arith))
