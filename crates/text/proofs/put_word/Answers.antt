-- `put_word` meets its contract: the part of the buffer that is written and given back is the word stored byte by byte. Assumes nothing.
use Rattle.text.proofs.Put.{part-put}
use Rattle.text.proofs.put_word.Goals as goal

pub returns : goal.returns
returns c = rw c.copy_from_slice.ensures.after (part-put _ _ _ c.requires)
