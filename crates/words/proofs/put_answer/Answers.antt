-- `put_answer` meets its contract. Assumes nothing.
use borrow.Author.Rules.{rules}
use Rattle.rules.specs.Listing.{verdict_words}
use Rattle.text.proofs.Put.{◌then◌}
use Rattle.words.proofs.put_answer.Goals as goal

pub returns-in-Misses : goal.returns-in-Misses
unfolding verdict_words
returns-in-Misses c = record { put = rw c.in-Misses.is c.put_phrase.ensures.put; upper_bound = search rules }

pub returns-in-Holds : goal.returns-in-Holds
unfolding verdict_words
returns-in-Holds c = let is = c.in-Holds.is in
    record { put = rw is (c.put_phrase-end.ensures.put then c.put_delay.ensures.put); upper_bound = search rules }
