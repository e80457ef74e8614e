-- How many periods begin in a time. Assumes nothing.
use Rattle.std.specs.Prelude.{◌≡◌, ℕ, ◌≤◌}
use Rattle.laws.specs.Idioms.{◌/↑◌}

-- a count, which is small
pub record Counted (t period r : ℕ) : Type 0 where
  pub is : r ≡ t /↑ period
  pub high : r ≤ 10000
