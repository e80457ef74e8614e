-- What writing promises. Assumes nothing.
use Rattle.std.specs.Prelude.{ℕ, ◌≤◌, ◌≡◌, List, Result}
use Rattle.rules.specs.declared.Table.{Table}
use Rattle.rules.specs.declared.Refusal.{Refusal}
use Rattle.rules.specs.Chain.{granted}
use Rattle.rules.specs.Operations.{writing, out_after}

-- the answer of writing t into a buffer, and the buffer's bytes afterwards
pub record Wrote (t : Table) (before : List ℕ) (answer : Result ℕ Refusal) (after : List ℕ) : Type 0 where
  pub answered : answer ≡ granted (writing t before).refusal (writing t before).length
  pub stored : after ≡ out_after t before
  -- no file is longer (RULES 7.5)
  pub small : (writing t before).length ≤ 990
