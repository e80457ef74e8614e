-- How large the figures of a sound row, and the weights of a table's cores, get. Assumes nothing.
use mathlib.Core.Path.{◌≡◌}
use mathlib.Core.Bool.{Bool, true, false, cond, not, ◌&&◌}
use mathlib.Core.List.{List, [], ◌∷◌}
use Prim.Native.Nat.{ℕ, ◌+◌, ◌*◌, ◌^◌, ◌≤◌, zero-le}
use native.Mathlib.Nat.{le_trans}
use native.Mathlib.Omega.{arith}
use lib.Dec.{eqb}
use lib.ListN.{length}
use Rattle.rules.specs.declared.Table.{Table}
use Rattle.rules.specs.Cores.{share, set_of, is_near, is_far, near}
use Rattle.rules.specs.Timing.{Row}
use Rattle.facts.specs.Sound.{SoundRow}
use Rattle.rules.specs.Dram.{crossing, conflict}
use Rattle.facts.specs.Prices.{weight}
use Rattle.delays.specs.declared.Figures.{Figures}
use Rattle.delays.specs.Figures.{figures_of, FiguresBounded}
use Rattle.delays.proofs.Bounds.{bounded}
use Rattle.sides.proofs.Masks.{bit_high, counted}
use Rattle.laws.specs.Idioms.{sum_over, those, up_to}
use Rattle.laws.proofs.Runs.{length_from}

sum-high : (f : ℕ → ℕ) (m : ℕ) → ((q : ℕ) → f q ≤ m) → (l : List ℕ) → sum_over l f ≤ length l * m
sum-high f m h [] = zero-le
sum-high f m h (q ∷ l) = omega (arith, h q, sum-high f m h l)

those-few : (f : ℕ → Bool) (l : List ℕ) → length (those f l) ≤ length l
those-few f [] = zero-le
those-few f (q ∷ l) = omega (arith, bit_high (f q), counted q (those f l) (f q), those-few f l)

cond_high : (b : Bool) (c : ℕ) → cond b c 0 ≤ c
cond_high true c = omega arith
cond_high false c = zero-le

-- near or far, not both
once : (a b : Bool) (c k m : ℕ) → c ≤ m → k ≤ m → cond (a && not b) c 0 + cond (a && b) k 0 ≤ m
once true true c k m hc hk = omega arith
once true false c k m hc hk = omega arith
once false b c k m hc hk = zero-le

pub small : {w : Row} {f : Figures} → SoundRow w → f ≡ figures_of w → FiguresBounded f
small {w} s e = rw e (bounded w s)

module _ (t : Table) (few : t.cores ≤ 8) (row : SoundRow t.timing) where
  crossing-high : (crossing t).0 ≤ 390 * 5000
  unfolding crossing figures_of
  crossing-high = (bounded t.timing row).crossing-high

  conflict-high : (conflict t).0 ≤ 516 * 5000
  unfolding conflict figures_of
  conflict-high = (bounded t.timing row).conflict-high

  near-few : (p : ℕ) → length (near t p) ≤ 8
  unfolding near
  near-few p = omega (arith, those-few (is_near t p) (up_to t.cores), length_from 1 t.cores)

  pub weight-bounded : (p q : ℕ) → weight t p q ≤ 2 * 10 ^ 7
  unfolding weight
  weight-bounded p q =
      let beyond = sum-high (λ r. cond (is_far t r q) (crossing t).0 0) (390 * 5000) (λ r. le_trans (cond_high (is_far t r q) (crossing t).0) crossing-high) (near t p) in
      let own = once (not (eqb q p)) (share (set_of t p) (set_of t q)) (crossing t).0 (conflict t).0 (516 * 5000) (omega (arith, crossing-high)) conflict-high in
      omega (arith, near-few p)
