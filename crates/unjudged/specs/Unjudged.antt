-- Starts that come after the latest allowed response. Places are counted from 0, numbers from 1. Assumes nothing.
use Rattle.std.specs.Prelude.{ℕ, ◌≤◌, ◌<◌, List, ltb, get_or}
use Rattle.laws.specs.Idioms.{entry}
use Rattle.rules.specs.declared.Refusal.{Refusal}
use Rattle.rules.specs.Chain.{first}

pub record OnTime (n : ℕ) (latest starts : List ℕ) : Type 0 where
  pub each : (i : ℕ) → i < n → get_or starts i 0 ≤ get_or latest i 0

-- 13 with the first start that is after the latest allowed response
unfoldable pub first_after : ℕ → List ℕ → List ℕ → Refusal
first_after n latest starts = first 13 (λ k. ltb (entry 0 latest k) (entry 0 starts k)) n
