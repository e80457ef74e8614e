-- What the number with which a program ends says: of the text that it listed, and of the bounds of the tasks. Assumes nothing.
use Rattle.std.specs.Prelude.{ℕ, ◌≤◌, ◌≡◌, true, false, List, ◌++◌, ◌↔◌}
use Rattle.laws.specs.Idioms.{text}
use Rattle.laws.specs.Decimal.{decimal}
use Rattle.rules.specs.Judgement.{IsBound}
use Rattle.rules.specs.Chain.{is_accepted}
use Rattle.rules.specs.Operations.{read_to_judge}
use Rattle.rules.specs.Listing.{listing}
use Rattle.status.specs.Status.{file_status}

-- lines, of which the last is `last`
abbrev pub EndsIn : List ℕ → List ℕ → Type 0
EndsIn lines last = (before : List ℕ) × (lines ≡ before ++ text "\n" ++ last ++ text "\n")

-- the number and the listing of a file say the same
pub record TiedToListing (s : List ℕ) : Type 0 where
  pub no_other : file_status s ≤ 2
  -- 0 exactly if the last line is `all hold`
  pub all_hold : (file_status s ≡ 0) ↔ EndsIn (listing s) (text "all hold")
  -- 1 exactly if it is `first miss` and a number
  pub first-miss : (file_status s ≡ 1) ↔ ((k : ℕ) × EndsIn (listing s) (text "first miss " ++ decimal k))
  -- 2 exactly if all that is listed is `refused` and a number
  pub refused : (file_status s ≡ 2) ↔ ((n : ℕ) × (listing s ≡ text "refused " ++ decimal n ++ text "\n"))

-- k is the number of a task of the table that a file holds
abbrev pub IsTask : List ℕ → ℕ → Type 0
IsTask s k = (1 ≤ k) × (k ≤ (read_to_judge s).table.tasks)

-- it has a bound: a smallest whole time from 1 to its deadline that satisfies the response equation
abbrev pub HasBound : List ℕ → ℕ → Type 0
HasBound s k = (R : ℕ) × IsBound (read_to_judge s).table k R

-- the number says whether the file is accepted, and whether its tasks have bounds
pub record TiedToBounds (s : List ℕ) : Type 0 where
  -- 0 exactly if the file is accepted and every task has a bound
  pub every-bound : (file_status s ≡ 0) ↔ ((is_accepted (read_to_judge s).refusal ≡ true) × ((k : ℕ) → IsTask s k → HasBound s k))
  -- 1 exactly if it is accepted and a task has none
  pub some-none : (file_status s ≡ 1) ↔ ((is_accepted (read_to_judge s).refusal ≡ true) × (k : ℕ) × IsTask s k × ¬ HasBound s k)
  -- 2 exactly if it is refused
  pub refused : (file_status s ≡ 2) ↔ (is_accepted (read_to_judge s).refusal ≡ false)

-- of every file
pub record Tied : Type 0 where
  pub listed : (s : List ℕ) → TiedToListing s
  pub bounded : (s : List ℕ) → TiedToBounds s
