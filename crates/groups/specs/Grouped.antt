-- The first n tasks by their cores: the places of those on core 1, then of those on core 2, and so on. Places are counted from 0. Assumes nothing.
use Rattle.std.specs.Prelude.{ℕ, ◌+◌, ◌≤◌, ◌<◌, ◌≡◌, List, ◌++◌, length, take, get_or}
use Rattle.standing.specs.OnCore.{places_on}

-- an array of places of n tasks
pub record PlacesBelow (n : ℕ) (order : List ℕ) : Type 0 where
  pub each : (k : ℕ) → get_or order k 0 < n
  pub long : length order ≡ 33

-- e places of it, of which the first m were there, and after them some more
pub record Joined (n : ℕ) (more : List ℕ) (m e : ℕ) (old new : List ℕ) : Type 0 where
  pub count : e ≡ m + length more
  pub is : take e new ≡ take m old ++ more
  pub low : PlacesBelow n new

-- the tasks of the core in place q, which has number q + 1, stand at begins[q] to begins[q + 1]
pub record OrderedAt (n : ℕ) (core begins order : List ℕ) (q : ℕ) : Type 0 where
  pub next : get_or begins (q + 1) 0 ≡ get_or begins q 0 + length (places_on core (q + 1) n)
  pub few : get_or begins (q + 1) 0 ≤ n
  pub each : (j : ℕ) → j < length (places_on core (q + 1) n) → get_or order (get_or begins q 0 + j) 0 ≡ get_or (places_on core (q + 1) n) j 0

pub record Ordered (cores n : ℕ) (core begins order : List ℕ) : Type 0 where
  pub long : length begins ≡ 9
  pub low : PlacesBelow n order
  pub each : (q : ℕ) → q < cores → OrderedAt n core begins order q
