-- `put_delay` meets its contract. Assumes nothing.
use borrow.Author.Rules.{rules}
use Rattle.rules.specs.Listing.{delay_word}
use Rattle.words.proofs.put_delay.Goals as goal

pub returns-in-Request : goal.returns-in-Request
unfolding delay_word
returns-in-Request c = record { put = rw c.in-Request.is c.put_phrase.ensures.put; upper_bound = search rules }

pub returns-in-Job : goal.returns-in-Job
unfolding delay_word
returns-in-Job c = record { put = rw c.in-Job.is c.put_phrase-in-Job.ensures.put; upper_bound = search rules }
