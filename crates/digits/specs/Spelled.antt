-- A number in decimal digits at the end of twenty places. Assumes nothing.
use Rattle.std.specs.Prelude.{◌≡◌, List, ℕ, ◌≤◌, drop}
use Rattle.laws.specs.Decimal.{decimal}

-- the digits of n stand from place `first` on to the end
pub record Spelled (n first : ℕ) (after : List ℕ) : Type 0 where
  pub inside : first ≤ 20
  pub digits : drop first after ≡ decimal n
