-- The answers of two tables that may be judged, carried or fresh. Assumes nothing.
use mathlib.Core.Path.{sym, ap, ◌∙◌}
use mathlib.Core.List.{List}
use Prim.Native.Nat.{ℕ}
use Rattle.laws.specs.Idioms.{entry}
use Rattle.rules.specs.Operations.{answers_from, fresh}
use Rattle.facts.proofs.Starts.{judged-accepted}
use Rattle.facts.proofs.LentStarts.{answers-same}
use Rattle.after.proofs.Either.{answers-carried, answers-fresh}
use Rattle.facts.proofs.AllStarts.{all-fresh, all-carried, carried-answers, fresh-starts}
use Rattle.after.proofs.answers_after.Goals as goal

pub answers-requires-2-clause-all_allowed : goal.answers-requires-2-clause-all_allowed
answers-requires-2-clause-all_allowed c = all-fresh c.args.newer (judged-accepted _ c.requires.newer_value)

pub answers-requires-clause-all_allowed : goal.answers-requires-clause-all_allowed
answers-requires-clause-all_allowed c =
    let was = c.requires.older_value in
    let is = c.requires.newer_value in
    let so = c.requires.carried_value in
    rw c.older_starts.ensures (all-carried c.args.older c.args.newer (judged-accepted _ was) (judged-accepted _ is) (sym so ∙ c.if-carried.true))

pub returns-then-carried : goal.returns-then-carried
returns-then-carried c =
    let was = c.requires.older_value in
    let is = c.requires.newer_value in
    let so = c.requires.carried_value in
    let worse = sym so ∙ c.if-carried.true in
    c.answers.ensures
    ∙ ap (λ (l : List ℕ). answers_from c.args.newer (entry 0 l)) c.older_starts.ensures
    ∙ carried-answers c.args.older c.args.newer (judged-accepted _ was) (judged-accepted _ is) worse
    ∙ answers-carried c.args.older c.args.newer was is worse

pub returns : goal.returns
returns c =
    let was = c.requires.older_value in
    let is = c.requires.newer_value in
    let so = c.requires.carried_value in
    c.answers-2.ensures
    ∙ answers-same c.args.newer _ fresh (λ k low high. fresh-starts k)
    ∙ answers-fresh c.args.older c.args.newer was is (sym so ∙ c.if-carried.false)
