-- A chain of three and more links, as code walks it: what one link refuses, those after it leave. Assumes nothing.
use mathlib.Core.Path.{◌≡◌, sym}
use Rattle.rules.specs.declared.Refusal.{Refusal}
use Rattle.std.specs.Prelude.{Err}
use Rattle.rules.specs.Chain.{◌or_else◌, granted}
use Rattle.facts.proofs.Chain.{was-denied, denied, first-refuses}

pub stays : {A : Type 0} (a b : Refusal) (x : A) {d : Refusal} → Err d ≡ granted a x → Err d ≡ granted (a or_else b) x
stays a b x e = let w = was-denied a x (sym e) in rw (← w.1, first-refuses a b w.0) (sym (denied a x w.0))
