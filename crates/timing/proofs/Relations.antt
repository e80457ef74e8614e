-- The relations as comparisons, by their numbers. Assumes nothing.
use Prim.Native.Nat.{◌+◌, ◌/◌, ◌%◌}
use mathlib.Core.Path.{◌≡◌, refl}
use mathlib.Core.Bool.{not}
use lib.Dec.{leb, ltb, eqb}
use Rattle.rules.specs.Timing.{Row, CL, WL, BL, tWTR, tWR, tRCD, tRAS, tRTP, Ncols}
use Rattle.rules.specs.Delays.{hit}
use Rattle.rules.specs.Refusals.{relations_hold, relation_fault}
use Rattle.chain.proofs.Faults.{not_most, not_less}

module _ (w : Row) where
  pub relation_1 : ltb (tWR w) (tWTR w) ≡ relation_fault w 1
  unfolding relations_hold relation_fault
  relation_1 = not_most (tWR w) (tWTR w)

  pub relation_2 : ltb (WL w + BL w / 2 + tWTR w) (CL w) ≡ relation_fault w 2
  unfolding relations_hold relation_fault
  relation_2 = not_most (WL w + BL w / 2 + tWTR w) (CL w)

  pub relation_3 : leb (CL w + BL w / 2 + 2) (tRTP w) ≡ relation_fault w 3
  unfolding relations_hold relation_fault
  relation_3 = not_less (CL w + BL w / 2 + 2) (tRTP w)

  pub relation_4 : leb (tRCD w + (hit w).0) (tRAS w) ≡ relation_fault w 4
  unfolding relations_hold relation_fault
  relation_4 = not_less (tRCD w + (hit w).0) (tRAS w)

  pub relation_5 : not (eqb (Ncols w % BL w) 0) ≡ relation_fault w 5
  unfolding relations_hold relation_fault
  relation_5 = refl
