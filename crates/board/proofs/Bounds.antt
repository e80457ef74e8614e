-- How large the prices of a sound table's cores get, whatever its kind. Assumes nothing.
use mathlib.Core.Path.{◌≡◌, refl}
use mathlib.Core.Bool.{Bool, true, false, cond, not}
use Prim.Native.Nat.{ℕ, ◌*◌, ◌^◌, ◌≤◌}
use native.Mathlib.Omega.{arith}
use lib.Dec.{eqb}
use Rattle.rules.specs.declared.Table.{Table}
use Rattle.rules.specs.Kinds.{is_bus}
use Rattle.facts.specs.Sound.{Sound}
use Rattle.facts.specs.Prices.{dram_prices, bus_prices, prices_of}
use Rattle.dram.proofs.Bounds.{weight-bounded}

cond_high : (b : Bool) (c m : ℕ) → c ≤ m → cond b c 0 ≤ m
cond_high true c m h = h
cond_high false c m h = omega arith

pub price-bounded : (t : Table) → Sound t → (p q : ℕ) → (prices_of t p).per_core q ≤ 2 * 10 ^ 7
unfolding prices_of dram_prices bus_prices
price-bounded t s p q = go (is_bus t) refl
  where
    go : (b : Bool) → is_bus t ≡ b → (cond b (bus_prices t p) (dram_prices t p)).per_core q ≤ 2 * 10 ^ 7
    go true e = cond_high (not (eqb q p)) _ (2 * 10 ^ 7) (omega (arith, (s.slot-in e).high))
    go false e = weight-bounded t s.cores-in.high (s.row e) p q
