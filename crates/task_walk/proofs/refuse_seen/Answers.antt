-- A place that was seen is refused, and none is nothing. Assumes nothing.
use mathlib.Core.Path.{refl, sym}
use native.Mathlib.Omega.{arith}
use borrow.Author.Tests.{ne_eqb}
use Rattle.rules.specs.Chain.{accepted, refused}
use Rattle.facts.proofs.Chain.{allowed, denied}
use Rattle.task_walk.proofs.refuse_seen.Goals as goal

pub returns-in-Some : goal.returns-in-Some
returns-in-Some c =
    rw (c.in-Some.is, c.refuse.ensures) (sym (denied (refused c.args.number c.in-Some.place) _ (ne_eqb c.args.number 0 (λ z. omega (arith, z)))))

pub returns-in-None : goal.returns-in-None
returns-in-None c = rw c.in-None.is (sym (allowed accepted _ refl))
