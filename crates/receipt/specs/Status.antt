-- RULES 10.2: the number with which a program that writes a file's receipt ends, and what it says. Assumes nothing.
use Rattle.std.specs.Prelude.{ℕ, ◌≡◌, true, false, cond, List, ◌++◌, ◌⊎◌, ◌↔◌}
use Rattle.laws.specs.Idioms.{text}
use Rattle.laws.specs.Decimal.{decimal}
use Rattle.rules.specs.Chain.{is_accepted}
use Rattle.rules.specs.File.{check_whole}
use Rattle.rules.specs.Listing.{receipt}

-- 0: it came whole. 2: refused
unfoldable pub receipt_status : List ℕ → ℕ
receipt_status s = cond (is_accepted (check_whole s)) 0 2

-- the number, the receipt and the file say the same
pub record Tied (s : List ℕ) : Type 0 where
  pub no_other : (receipt_status s ≡ 0) ⊎ (receipt_status s ≡ 2)
  -- 0 exactly if the receipt is `whole`, and exactly if the file came whole
  pub whole : (receipt_status s ≡ 0) ↔ (receipt s ≡ text "whole\n")
  pub came : (receipt_status s ≡ 0) ↔ (is_accepted (check_whole s) ≡ true)
  -- 2 exactly if it is `refused` and a number
  pub refused : (receipt_status s ≡ 2) ↔ ((n : ℕ) × (receipt s ≡ text "refused " ++ decimal n ++ text "\n"))
