-- The number of an answer's refusal is that of the refusal that it is made of. Assumes nothing.
use mathlib.Core.Path.{◌≡◌, refl}
use mathlib.Core.Bool.{Bool, true, false, cond}
use Rattle.std.specs.Prelude.{Ok, Err}
use Rattle.rules.specs.declared.Refusal.{Refusal}
use Rattle.rules.specs.Chain.{is_accepted, granted, refusal_of}
use Rattle.plain.specs.Codes.{code_of}

pub code_granted : {A : Type 0} (r : Refusal) (x : A) → code_of (refusal_of (granted r x)) ≡ code_of r
unfolding granted refusal_of
code_granted r x = go (is_accepted r) refl
  where
    go : (b : Bool) → is_accepted r ≡ b → code_of (refusal_of (cond b (Ok x) (Err r))) ≡ code_of r
    go true p = rw p
    go false p = refl
