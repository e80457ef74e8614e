-- The records before the first that is not sound. Assumes nothing.
use Rattle.rules.specs.Salvage.{is_sound}
use Rattle.kept.proofs.Leading.{Counted}
use Rattle.kept.proofs.count.Given as goal

abbrev pub invariant-loop-i : goal.invariant-loop-i
invariant-loop-i l = Counted (is_sound l.file) l.promised l.i
