-- Reading in its two parts (RULES 7.4): did the file come whole, and then its figures. Assumes nothing.
use Rattle.std.specs.Prelude.{ℕ, ◌≤◌, ◌<◌, ◌≡◌, true, false, cond, ◌⊎◌, ◌↔◌, List}
use Rattle.laws.specs.Idioms.{Within}
use Rattle.rules.specs.Chain.{is_accepted}
use Rattle.rules.specs.File.{check_whole, decode}
use Rattle.rules.specs.Operations.{empty_table, taking, reading, check_file}

pub record TwoParts (s : List ℕ) : Type 0 where
  -- the first part gives 1 to 4 and nothing else, and no place
  pub first : ((check_whole s).number ≤ 4) × ((check_whole s).place ≡ 0)
  -- the second gives 5 to 11 and 16 and nothing else
  pub second : ((taking s).refusal.number ≡ 0) ⊎ Within 5 11 (taking s).refusal.number ⊎ ((taking s).refusal.number ≡ 16)
  -- a file is whole exactly if reading gives 0 or a number above 4
  pub exactly : (is_accepted (check_whole s) ≡ true) ↔ (((reading s).refusal.number ≡ 0) ⊎ (4 < (reading s).refusal.number))
  -- otherwise the first part gives reading's refusal
  pub otherwise : is_accepted (check_whole s) ≡ false → check_whole s ≡ (reading s).refusal
  -- a file that reading accepts is whole
  pub accepted : is_accepted (reading s).refusal ≡ true → is_accepted (check_whole s) ≡ true
  -- taken as one, reading is what it was: the first refusal of the chain, and the table where there is none
  pub as_one : reading s ≡ record { refusal = check_file s; table = cond (is_accepted (check_file s)) (decode s) empty_table }
