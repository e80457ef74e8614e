-- What is asked of a kind of board, each table's memory and prices: then points 2 and 3 hold of its tables. Assumes nothing.
use Rattle.std.specs.Prelude.{ℕ, ◌≤◌, ◌≡◌}
use Rattle.rules.specs.declared.Table.{Table}
use Rattle.rules.specs.Board.{Memory}
use Rattle.facts.specs.Prices.{Prices, priced_memory}
use Rattle.facts.specs.Worsened.{Alike}

-- prices make the memory, leave the own core free, and are the same on boards alike
pub record Lawful (memory : Table → ℕ → Memory) (prices : Table → ℕ → Prices) : Type 0 where
  pub priced : (t : Table) (p : ℕ) → memory t p ≡ priced_memory t (prices t p)
  pub own_free : (t : Table) (p : ℕ) → (prices t p).per_core p ≡ 0
  pub same-request : (a b : Table) → Alike a b → (p : ℕ) → 1 ≤ p → p ≤ a.cores → (prices a p).per_request ≡ (prices b p).per_request
  pub same-price : (a b : Table) → Alike a b → (p q : ℕ) → 1 ≤ p → p ≤ a.cores → 1 ≤ q → q ≤ a.cores → (prices a p).per_core q ≡ (prices b p).per_core q
