-- `store_answers` meets its contract. The invariant: each output has room, and the first i answers are in it. Assumes nothing.
use mathlib.Core.Path.{refl, sym, ◌∙◌}
use native.Mathlib.Omega.{arith}
use borrow.Author.Rules.{rules}
use Rattle.rules.specs.Chain.{refusal_of}
use Rattle.facts.proofs.Chain.{returned, was-denied, was-faultless, faultless}
use Rattle.stored.specs.Stored.{check_outputs}
use Rattle.stored.proofs.Laid.{unchanged, fits, storing_next, storing_done}
use Rattle.stored.proofs.store_answers.Goals as goal

pub returns-in_err-refuse_if-clause-value : goal.returns-in_err-refuse_if-clause-value
unfolding check_outputs
returns-in_err-refuse_if-clause-value c = returned _ c.from_residual.ensures.1 ∙ rw c.short.ensures at c.in_err-refuse_if.ensures

pub returns-in_err-refuse_if-clause-stored : goal.returns-in_err-refuse_if-clause-stored
unfolding refusal_of
returns-in_err-refuse_if-clause-stored c =
    let w = was-denied _ _ (sym c.in_err-refuse_if.ensures) in
    rw (returned _ c.from_residual.ensures.1) (unchanged (rw w.1 at w.0))

pub loop-i-init : goal.loop-i-init
loop-i-init c = record {
  reached = search rules;
  has_room = sym c.short.ensures ∙ was-faultless _ _ _ _ (omega arith) c.in_ok-refuse_if.ensures;
  stored = record { bounds_are = refl; rounds_are = refl; by_are = refl };
}

pub bounds-bounds-i : goal.bounds-bounds-i
bounds-bounds-i c = (fits c.loop-i.invariant (search rules)).0

pub bounds-rounds-i : goal.bounds-rounds-i
bounds-rounds-i c = (fits c.loop-i.invariant (search rules)).1

pub bounds-by-i : goal.bounds-by-i
bounds-by-i c = (fits c.loop-i.invariant (search rules)).2

pub loop-i-preserved : goal.loop-i-preserved
loop-i-preserved c = rw (c.bound_of.ensures, c.by_number.ensures) (storing_next c.loop-i.invariant (search rules))

pub returns-clause-value : goal.returns-clause-value
unfolding check_outputs
returns-clause-value c = faultless _ _ _ c.loop-i.invariant.has_room

pub returns-clause-stored : goal.returns-clause-stored
unfolding refusal_of
returns-clause-stored c = storing_done c.loop-i.invariant (omega arith)
