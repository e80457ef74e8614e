-- `store` meets its contract. Assumes nothing.
use mathlib.Core.Path.{◌≡◌, refl, sym, ◌∙◌}
use borrow.Author.Rules.{rules}
use lib.ListN.{length, take}
use lib.Seq.{length-take-le}
use Rattle.rules.specs.Chain.{refusal_of}
use Rattle.facts.proofs.Chain.{returned, was-allowed, was-denied, stops_at, goes_on_to}
use Rattle.stored.proofs.Laid.{unchanged}
use Rattle.outcome.proofs.store.Goals as goal

pub returns-in_err-answers-clause-value : goal.returns-in_err-answers-clause-value
returns-in_err-answers-clause-value c = λ r is. stops_at _ _ r.answers _ c.from_residual.ensures.1 (sym c.in_err-answers.was ∙ is)

pub returns-in_err-answers-clause-stored : goal.returns-in_err-answers-clause-stored
unfolding refusal_of
returns-in_err-answers-clause-stored c = λ r is.
    let w = was-denied _ _ (sym is ∙ c.in_err-answers.was) in
    rw (returned _ c.from_residual.ensures.1) (unchanged (rw w.1 at w.0))

pub returns-clause-value : goal.returns-clause-value
returns-clause-value c = λ r is.
    let many : length (take c.args.n c.in_ok-answers.answers) ≡ c.args.n = length-take-le _ _ (search rules) in
    goes_on_to _ _ r.answers _ (sym c.in_ok-answers.was ∙ is) (rw many at c.store_answers.ensures.value)

pub returns-clause-stored : goal.returns-clause-stored
returns-clause-stored c = λ r is. rw (was-allowed _ _ (sym is ∙ c.in_ok-answers.was)).1 c.store_answers.ensures.stored

pub returns-in_err-answers-clause-unchanged : goal.returns-in_err-answers-clause-unchanged
returns-in_err-answers-clause-unchanged c = rw c.in_err-answers.was (returned _ c.from_residual.ensures.1, refl, refl, refl)

pub returns-clause-unchanged : goal.returns-clause-unchanged
returns-clause-unchanged c = rw c.in_ok-answers.was tt
