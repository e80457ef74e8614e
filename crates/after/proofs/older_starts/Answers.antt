-- The starts that the older answers give, place by place. Assumes nothing.
use mathlib.Core.Path.{◌≡◌, ◌∙◌, ap}
use native.Mathlib.Omega.{arith}
use lib.ListN.{length}
use lib.Seq.{take_all}
use Rattle.rules.specs.Operations.{answers_from, fresh}
use Rattle.facts.proofs.AllStarts.{all-fresh, answers-long, fresh-starts, bounds_of_answers}
use Rattle.facts.proofs.Starts.{judged-accepted}
use Rattle.facts.proofs.LentStarts.{answers-same}
use Rattle.after.proofs.older_starts.Goals.{At-loop-i}
use Rattle.after.proofs.older_starts.Goals as goal

all-answers : (c : At-loop-i) → c.answers-all.result ≡ answers_from c.args.older fresh
all-answers c = c.answers-all.ensures ∙ answers-same c.args.older _ fresh (λ k low high. fresh-starts k)

all-long : (c : At-loop-i) → length c.answers-all.result ≡ 32
all-long c = ap length (all-answers c) ∙ answers-long c.args.older (judged-accepted _ c.requires) fresh

pub answers-all-requires-clause-all_allowed : goal.answers-all-requires-clause-all_allowed
answers-all-requires-clause-all_allowed c = all-fresh c.args.older (judged-accepted _ c.requires)

pub returns : goal.returns
returns c =
    let l = c.loop-i in
    let e : l.i ≡ 32 = omega arith in
    let h = rw e at l.invariant.is in
    rw (← bounds_of_answers c.args.older, ← all-answers (goal.at.returns c).At-loop-i) (rw (take_all 32 l.starts (omega (arith, l.invariant.long)), take_all 32 c.answers-all.result (omega (arith, all-long (goal.at.returns c).At-loop-i))) at h)
