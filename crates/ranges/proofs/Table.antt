-- The limits of a figure, from the rule's list as code reads it. Assumes nothing.
use Prim.Native.Nat.{ℕ, ◌-◌}
use mathlib.Core.Path.{◌≡◌, refl, ◌∙◌}
use mathlib.Core.Bool.{Bool, true, false, ◌&&◌}
use mathlib.Core.List.{List}
use lib.Dec.{eqb}
use lib.ListN.{get_or}
use borrow.Author.Tests.{eqb-true}
use Rattle.rules.specs.Timing.{Row, BL, ranges}
use Rattle.rules.specs.Refusals.{figure_fault}
use Rattle.ranges.specs.Ranges.{not_burst, out_of_range}

module _ (w : Row) (k : ℕ) where
  -- figure 6 is BL
  burst_at : eqb k 6 && not_burst (BL w) ≡ eqb k 6 && not_burst (get_or w (k - 1) 0)
  burst_at = go (eqb k 6) refl
    where
      go : (b : Bool) → eqb k 6 ≡ b → b && not_burst (BL w) ≡ b && not_burst (get_or w (k - 1) 0)
      go true e = let six : k ≡ 6 = eqb-true k 6 e in rw six
      go false e = refl

  -- the test of figure k, by the entries in place k - 1
  pub fault_at : {table : List (ℕ × ℕ)} → table ≡ ranges → {b : Bool}
      → b ≡ out_of_range (get_or table (k - 1) (0, 0)).0 (get_or table (k - 1) (0, 0)).1 k (get_or w (k - 1) 0) → b ≡ figure_fault w k
  unfolding figure_fault
  fault_at same e = e ∙ rw (same, burst_at) refl
