-- The length of a file by its counts. Assumes nothing.
use borrow.Author.Rules.{rules}
use Rattle.places.proofs.Places.{length_is}
use Rattle.places.proofs.file_length.Goals as goal

pub returns : goal.returns
returns c = record { value = rw (c.record_at.ensures.value, c.from.ensures, length_is); upper_bound = search rules }
