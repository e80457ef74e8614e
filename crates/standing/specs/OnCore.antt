-- The tasks on one core among the first ones. Places are counted from 0. Assumes nothing.
use Rattle.std.specs.Prelude.{ℕ, List, eqb, get_or}
use Rattle.laws.specs.Idioms.{those, below}

-- of the first n tasks, each with its core, the places of those on core q
unfoldable pub places_on : List ℕ → ℕ → ℕ → List ℕ
places_on core q n = those (λ i. eqb (get_or core i 0) q) (below n)
