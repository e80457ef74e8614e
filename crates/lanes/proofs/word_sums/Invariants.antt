-- Words in lanes: after some of them the lanes hold the sums of those. Assumes nothing.
use Rattle.lanes.proofs.Words.{Held}
use Rattle.lanes.proofs.word_sums.Given as goal

abbrev pub invariant-loop-word : goal.invariant-loop-word
invariant-loop-word l = Held l.s l.word-index l.e l.o l.re l.ro
