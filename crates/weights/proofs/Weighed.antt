-- Weights and RD from the bits of near and far cores, and from the weights. Assumes nothing.
use mathlib.Core.Path.{◌≡◌, refl, ap, fun_ext, sym}
use mathlib.Core.Bool.{Bool, true, false, cond, ◌&&◌}
use mathlib.Core.List.{List, [], ◌∷◌}
use Prim.Native.Nat.{ℕ, ◌+◌, ◌*◌, ◌-◌, ◌/◌, ◌%◌, ◌^◌, ◌≤◌}
use native.Mathlib.Nat.{one-mul, zero-div}
use native.Mathlib.Decide.{ℕ_discrete}
use native.Mathlib.Omega.{arith}
use borrow.Author.Tests.{ne_eqb, eq-eqb}
use lib.Bits.{bit_and, and_zero_l}
use lib.Count.{ones}
use lib.Dec.{eqb}
use lib.ListN.{length}
use Rattle.rules.specs.declared.Table.{Table}
use Rattle.rules.specs.Cores.{set_of, is_near, is_far, near, far}
use Rattle.rules.specs.Dram.{crossing, conflict, inter, intra, RD}
use Rattle.facts.specs.Prices.{weight}
use Rattle.facts.proofs.Weights.{share_comm, by_weights}
use Rattle.delays.specs.declared.Figures.{Figures}
use Rattle.delays.specs.Figures.{figures_of}
use Rattle.sides.specs.Masks.{as_bit, mask, side_masks}
use Rattle.weights.specs.Shows.{Shows}
use Rattle.laws.specs.Idioms.{sum_over, those, up_to, entry, is_empty}
use Rattle.laws.proofs.Places.{place_of}
use Rattle.sides.proofs.Masks.{mask_ones, mask-bit, mask_and, mask-none}

-- ---- far goes both ways

eqb-both : (a b : ℕ) → eqb a b ≡ eqb b a
eqb-both a b = go (ℕ_discrete a b)
  where
    go : Dec (a ≡ b) → eqb a b ≡ eqb b a
    go (yes e) = rw e
    go (no apart) = rw (ne_eqb a b apart, ne_eqb b a (λ e. apart (omega arith)))

far-both : (t : Table) (p q : ℕ) → is_far t p q ≡ is_far t q p
far-both t p q = rw (eqb-both q p, share_comm (set_of t p) (set_of t q))

-- ---- the weight

bit_times : (b : Bool) (c : ℕ) → cond b c 0 ≡ as_bit b * c
bit_times true c = omega arith
bit_times false c = omega arith

module _ (f g : ℕ → Bool) (c : ℕ) where
  sum-common : (l : List ℕ) → sum_over (those f l) (λ r. cond (g r) c 0) ≡ length (those (λ k. f k && g k) l) * c
  sum-common [] = omega arith
  sum-common (x ∷ l) = go (f x) (g x) refl (sum-common l)
    where
      go : (a b : Bool) → g x ≡ b → sum_over (those f l) (λ r. cond (g r) c 0) ≡ length (those (λ k. f k && g k) l) * c
          → sum_over (cond a (x ∷ those f l) (those f l)) (λ r. cond (g r) c 0)
          ≡ length (cond (a && b) (x ∷ those (λ k. f k && g k) l) (those (λ k. f k && g k) l)) * c
      go true true e s = rw e (omega arith)
      go true false e s = rw e (omega arith)
      go false b e s = s

module _ (t : Table) (p q : ℕ) where
  beyond_by_bits :
      sum_over (near t p) (λ r. cond (is_far t r q) (crossing t).0 0)
      ≡ ones (bit_and (mask (is_near t p) t.cores) (mask (is_far t q) t.cores)) * (crossing t).0
  unfolding near
  beyond_by_bits =
      rw (
        fun_ext (λ r. ap (λ (b : Bool). cond b (crossing t).0 0) (far-both t r q)),
        sum-common (is_near t p) (is_far t q) (crossing t).0 (up_to t.cores),
        mask_and (is_near t p) (is_far t q) 1 t.cores,
        mask_ones (λ k. is_near t p k && is_far t q k) 1 t.cores,
      )

  bit_of : (test : ℕ → Bool) → 1 ≤ q → q ≤ t.cores → mask test t.cores / 2 ^ (q - 1) % 2 ≡ as_bit (test q)
  bit_of test low high = let e : 1 + (q - 1) ≡ q = omega arith in rw e at (mask-bit test (q - 1) 1 t.cores (omega arith))

  weight_by_bits : 1 ≤ q → q ≤ t.cores
      → weight t p q
      ≡ (mask (is_far t p) t.cores / 2 ^ (q - 1) % 2 + ones (bit_and (mask (is_near t p) t.cores) (mask (is_far t q) t.cores))) * (crossing t).0
      + mask (is_near t p) t.cores / 2 ^ (q - 1) % 2 * (conflict t).0
  unfolding weight
  weight_by_bits low high =
      rw (beyond_by_bits, bit_of (is_far t p) low high, bit_of (is_near t p) low high, bit_times (is_far t p q), bit_times (is_near t p q)) (omega arith)

-- ---- the same of a table that shows these bits and figures

module _ {p nears : ℕ} {fars : List ℕ} {f : Figures} {t : Table} (s : Shows p nears fars f t) where
  fars_at : (q : ℕ) → 1 ≤ q → q ≤ t.cores → entry 0 fars q ≡ mask (is_far t q) t.cores
  unfolding side_masks
  fars_at q low high = rw s.far_are (place_of 0 (λ r. mask (is_far t r) t.cores) 8 t.cores q low high)

  crossing_is : f.crossing.0 ≡ (crossing t).0
  unfolding figures_of crossing
  crossing_is = rw s.figures_are

  conflict_is : f.conflict.0 ≡ (conflict t).0
  unfolding figures_of conflict
  conflict_is = rw s.figures_are

  pub weighed : (q : ℕ) → 1 ≤ p → p ≤ t.cores → 1 ≤ q → q ≤ t.cores
      → (entry 0 fars p / 2 ^ (q - 1) % 2 + ones (bit_and nears (entry 0 fars q))) * f.crossing.0 + nears / 2 ^ (q - 1) % 2 * f.conflict.0 ≡ weight t p q
  weighed q lowp highp low high = rw (fars_at p lowp highp, fars_at q low high, s.near_is, crossing_is, conflict_is, weight_by_bits t p q low high)

  -- where no core is near
  pub weighed_apart : nears ≡ 0 → (q : ℕ) → 1 ≤ p → p ≤ t.cores → 1 ≤ q → q ≤ t.cores → entry 0 fars p / 2 ^ (q - 1) % 2 * f.crossing.0 ≡ weight t p q
  unfolding ones
  weighed_apart none q lowp highp low high =
      let all = rw (none, and_zero_l (entry 0 fars q), zero-div (2 ^ (q - 1))) at (weighed q lowp highp low high) in
      omega (arith, all)

-- ---- RD

-- what RD has beside one request of each core
abbrev row_part : Table → ℕ → ℕ
row_part t p =
    cond (is_empty (near t p)) 0
    ((figures_of t.timing).run.0 + (figures_of t.timing).window * (figures_of t.timing).readwrite.0 * length (far t p) + (figures_of t.timing).reopen.0)

-- a sum over no members is 0, whether it is left out or not
set_apart : (l : List ℕ) (f : ℕ → ℕ) (x y : ℕ) → x + cond (is_empty l) 0 (y + sum_over l f) ≡ cond (is_empty l) 0 y + (x + sum_over l f)
set_apart [] f x y = omega arith
set_apart (q ∷ l) f x y = omega arith

module _ (t : Table) (p : ℕ) where
  one_each : sum_over (up_to t.cores) (weight t p) ≡ inter t p + sum_over (near t p) (λ q. (conflict t).0 + inter t q)
  unfolding inter
  one_each = simp one-mul at (sym (by_weights t (λ q. 1) p))

  RD_by_weights : RD t p ≡ row_part t p + sum_over (up_to t.cores) (weight t p)
  unfolding RD intra figures_of
  RD_by_weights = rw one_each (set_apart (near t p) (λ q. (conflict t).0 + inter t q) (inter t p) _)

module _ {p nears : ℕ} {fars : List ℕ} {f : Figures} {t : Table} (s : Shows p nears fars f t) {weights : ℕ} (sum : weights ≡ sum_over (up_to t.cores) (weight t p)) where
  none-near : eqb nears 0 ≡ is_empty (near t p)
  unfolding near
  none-near = rw s.near_is (mask-none (is_near t p) 1 t.cores)

  pub RD-none : nears ≡ 0 → weights ≡ RD t p
  RD-none e = rw (RD_by_weights, ← none-near, eq-eqb nears 0 e) (omega arith)

  far-count : 1 ≤ p → p ≤ t.cores → ones (entry 0 fars p) ≡ length (far t p)
  unfolding far
  far-count low high = rw (fars_at s p low high, mask_ones (is_far t p) 1 t.cores)

  pub RD-some : (nears ≡ 0 → ⊥) → 1 ≤ p → p ≤ t.cores → f.run.0 + f.window * f.readwrite.0 * ones (entry 0 fars p) + f.reopen.0 + weights ≡ RD t p
  RD-some some low high = rw (RD_by_weights, ← none-near, ne_eqb nears 0 some, far-count low high, s.figures_are, sum)
