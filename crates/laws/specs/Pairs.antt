-- Two lists whose members stand in a relation, place by place. Assumes nothing.
use Rattle.std.specs.Prelude.{List, [], ◌∷◌}

pub data Paired {A : Type 0} (R : A → A → Type 0) : List A → List A → Type 0 where
  none : Paired R [] []
  next : {x y : A} {xs ys : List A} → R x y → Paired R xs ys → Paired R (x ∷ xs) (y ∷ ys)
