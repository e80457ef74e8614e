-- A table is worsened where no change is told. Assumes nothing.
use mathlib.Core.Path.{◌≡◌, refl, ◌∙◌}
use mathlib.Core.Bool.{Bool, true, false, not}
use Rattle.order.proofs.Told.{agrees}
use Rattle.order.proofs.worsens.Goals as goal

none : (a b : Bool) → a ≡ not b → b ≡ not a
none a true e = rw e refl
none a false e = rw e refl

pub returns : goal.returns
returns c = none _ _ c.is_none.ensures ∙ rw c.difference.ensures (agrees _ _)
