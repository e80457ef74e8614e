-- `code` meets its contract. Assumes nothing.
use mathlib.Core.Path.{◌≡◌, sym, ◌∙◌}
use borrow.Author.Tests.{eq-eqb, ne_eqb}
use Rattle.rules.specs.Chain.{refusal_of}
use Rattle.plain.proofs.code.Goals as goal

pub returns-in-Ok : goal.returns-in-Ok
unfolding refusal_of
returns-in-Ok c = rw c.in-Ok.is

pub returns-in-Err : goal.returns-in-Err
unfolding refusal_of
returns-in-Err c = rw (c.in-Err.is, eq-eqb c.in-Err.refusal.number 0 c.if-refusal-eq0.true)

pub returns-in-Err-2 : goal.returns-in-Err-2
unfolding refusal_of
returns-in-Err-2 c =
    let same : c.in-Err-2.refusal ≡ c.in-Err.refusal = let e = sym c.in-Err-2.is ∙ c.in-Err.is in cc in
    rw (c.in-Err-2.is, same, ne_eqb c.in-Err.refusal.number 0 c.if-refusal-eq0.false)
