-- The figures of a row that is not refused, a DRAM's and a bus's. Assumes nothing.
use mathlib.Core.Path.{◌≡◌, refl}
use mathlib.Core.Bool.{Bool, true, false}
use mathlib.Core.List.{List, [], ◌∷◌}
use Prim.Native.Nat.{ℕ, zero, suc, ◌-◌, ◌≤◌, max}
use native.Mathlib.Omega.{arith}
use native.Mathlib.Nat.{le_trans}
use native.Mathlib.Decide.{ℕ_discrete}
use lib.Dec.{leb}
use lib.ListN.{get_or}
use borrow.Author.Tests.{leb-true, eqb-true, ne_eqb, not-false}
use Rattle.rules.specs.Timing.{Row, tWR, tWTR, ranges}
use Rattle.rules.specs.Bus.{slot_in}
use Rattle.rules.specs.Kinds.{says_bus}
use Rattle.rules.specs.Chain.{is_accepted, first}
use Rattle.rules.specs.Refusals.{figure_fault, relations_hold, relation_fault, check_timing, bus_fault, check_bus, check_row}
use Rattle.facts.specs.Sound.{SoundRow}
use Rattle.facts.proofs.First.{none_first}
use Rattle.facts.proofs.Chain.{both-accepted}
use Rattle.laws.specs.Idioms.{entry, Within}
use Rattle.laws.proofs.Tests.{or_neither, inside}

-- ---- a DRAM's

-- no highest value of the ranges is above the largest of them
abbrev top : List (ℕ × ℕ) → ℕ
top [] = 0
top (r ∷ rs) = max r.1 (top rs)

under_top : (l : List (ℕ × ℕ)) (k : ℕ) → (get_or l k (0, 0)).1 ≤ top l
under_top [] k = omega arith
under_top (r ∷ rs) zero = omega arith
under_top (r ∷ rs) (suc k) = omega (arith, under_top rs k)

module _ (w : Row) (passed : is_accepted (check_timing w) ≡ true) where
  links : (is_accepted (first 6 (figure_fault w) 15) ≡ true) × (is_accepted (first 7 (relation_fault w) 5) ≡ true)
  unfolding check_timing
  links = both-accepted (first 6 (figure_fault w) 15) (first 7 (relation_fault w) 5) passed

  figure : (k : ℕ) → 1 ≤ k → k ≤ 15 → Within (entry (0, 0) ranges k).0 (entry (0, 0) ranges k).1 (entry 0 w k)
  unfolding figure_fault
  figure k low high =
      inside _ _ _ (not-false _ (or_neither _ _ (none_first 5 (figure_fault w) 15 links.0 k low high)).0)

  relation_one : leb (tWTR w) (tWR w) ≡ true
  unfolding relation_fault relations_hold
  relation_one = not-false _ (none_first 6 (relation_fault w) 5 links.1 1 (omega arith) (omega arith))

  pub sound-row : SoundRow w
  unfolding ranges
  sound-row = record {
    tCK_in = figure 1 (omega arith) (omega arith);
    tRP_in = figure 2 (omega arith) (omega arith);
    tRCD_in = figure 3 (omega arith) (omega arith);
    CL_in = figure 4 (omega arith) (omega arith);
    WL_in = figure 5 (omega arith) (omega arith);
    BL_in = figure 6 (omega arith) (omega arith);
    tWTR_in = figure 7 (omega arith) (omega arith);
    tWR_in = figure 8 (omega arith) (omega arith);
    tRRD_in = figure 9 (omega arith) (omega arith);
    tFAW_in = figure 10 (omega arith) (omega arith);
    tRTRS_in = figure 13 (omega arith) (omega arith);
    Ncols_in = figure 14 (omega arith) (omega arith);
    recovery = leb-true (tWTR w) (tWR w) relation_one;
  }

  dram-high : (k : ℕ) → 1 ≤ k → k ≤ 15 → entry 0 w k ≤ 65535
  unfolding ranges
  dram-high k low high = le_trans (figure k low high).high (under_top ranges (k - 1))

-- ---- a bus's

module _ (w : Row) (passed : is_accepted (check_bus w) ≡ true) where
  bus-clear : (k : ℕ) → 1 ≤ k → k ≤ 15 → bus_fault w k ≡ false
  unfolding check_bus
  bus-clear k low high = none_first 15 (bus_fault w) 15 passed k low high

  pub sound-slot : Within 1 65535 (slot_in w).0
  unfolding bus_fault
  sound-slot = inside 1 65535 (slot_in w).0 (not-false _ (bus-clear 1 (omega arith) (omega arith)))

  bus-high : (k : ℕ) → 1 ≤ k → k ≤ 15 → entry 0 w k ≤ 65535
  unfolding bus_fault slot_in
  bus-high k low high = go (ℕ_discrete k 1)
    where
      go : Dec (k ≡ 1) → entry 0 w k ≤ 65535
      go (yes e) = rw e sound-slot.high
      go (no apart) = omega (arith, eqb-true (entry 0 w k) 0 (not-false _ (rw (ne_eqb k 1 apart) at (bus-clear k low high))))

-- ---- either's

module _ (fourth : ℕ) (w : Row) (passed : is_accepted (check_row fourth w) ≡ true) where
  pub is_dram : says_bus fourth ≡ false → is_accepted (check_timing w) ≡ true
  unfolding check_row
  is_dram e = rw e at passed

  pub is_bus_lem : says_bus fourth ≡ true → is_accepted (check_bus w) ≡ true
  unfolding check_row
  is_bus_lem e = rw e at passed

  pub row-high : (k : ℕ) → 1 ≤ k → k ≤ 15 → entry 0 w k ≤ 65535
  row-high k low high = go (says_bus fourth) refl
    where
      go : (b : Bool) → says_bus fourth ≡ b → entry 0 w k ≤ 65535
      go true e = bus-high w (is_bus_lem e) k low high
      go false e = dram-high w (is_dram e) k low high
