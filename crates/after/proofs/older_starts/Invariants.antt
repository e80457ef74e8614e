-- The starts that the older answers give, place by place. Assumes nothing.
use Rattle.rules.specs.declared.Answer.{Answer}
use Rattle.rules.specs.Judgement.{bound_of}
use Rattle.starts.proofs.Column.{Column}
use Rattle.after.proofs.older_starts.Given as goal

abbrev pub invariant-loop-i : goal.invariant-loop-i
invariant-loop-i l = Column (λ (a : Answer). bound_of a.verdict) l.all 32 l.i l.starts
