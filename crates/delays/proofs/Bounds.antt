-- How large the delay figures of a sound row get, in cycles and as times. Assumes nothing.
use Prim.Native.Nat.{ℕ, ◌+◌, ◌*◌, ◌/◌, ◌≤◌, ◌<◌, ◌^◌, min}
use mathlib.Core.Bool.{Bool, true, false, cond}
use native.Mathlib.Nat.{mul-le-mul, div-le_of_le-mul, max-le}
use native.Mathlib.Omega.{arith}
use lib.Dec.{eqb}
use Rattle.rules.specs.declared.Cycles.{Cycles}
use Rattle.rules.specs.Timing.{Row, tCK, CL, WL, BL, tWTR, Ncols, Ncap, unknown}
use Rattle.rules.specs.Units.{◌⊕◌, in_time}
use Rattle.rules.specs.Delays.{pre, act, readwrite, hit, reopen, conf, run, window}
use Rattle.facts.specs.Sound.{SoundRow}
use Rattle.laws.specs.Idioms.{◌/↑◌}
use Rattle.laws.proofs.Signed.{larger-cut}
use Rattle.delays.specs.Figures.{figures_of, FiguresBounded}

none_or : (b : Bool) {n high : ℕ} → n ≤ high → cond b 0 n ≤ high
none_or true h = omega arith
none_or false h = h

module _ (w : Row) (s : SoundRow w) where
  act-high : (act w).0 ≤ 127
  unfolding act
  act-high = rw larger-cut (omega arith)

  readwrite-high : (readwrite w).0 ≤ 262
  unfolding readwrite
  readwrite-high = simp larger-cut (max-le (max-le (max-le (max-le (omega arith) (omega arith)) (omega arith)) (omega arith)) (omega arith))

  pub crossing-high : (pre ⊕ act w ⊕ readwrite w).0 ≤ 390
  unfolding pre
  crossing-high = omega (arith, act-high, readwrite-high)

  reopen-high : (reopen w).0 ≤ 254
  unfolding reopen
  reopen-high = omega arith

  hit-high : (hit w).0 ≤ 262
  unfolding hit
  hit-high = omega arith

  conf-high : (conf w).0 ≤ 516
  unfolding conf
  conf-high = omega (arith, reopen-high, hit-high)

  bursts_high : Ncols w / BL w ≤ 512
  bursts_high = div-le_of_le-mul (BL w) (omega arith)

  pub window-high : window w ≤ 512
  unfolding window
  window-high = go (eqb (Ncap w) unknown)
    where
      go : (b : Bool) → cond b (Ncols w / BL w) (min (Ncols w / BL w) (Ncap w)) ≤ 512
      go true = bursts_high
      go false = omega (arith, bursts_high)

  run-high : (run w (window w)).0 ≤ 99710
  unfolding run
  run-high =
      let writes : window w /↑ 2 * (WL w + BL w / 2 + tWTR w) ≤ 256 * 262 = mul-le-mul {n₂ = 256} {m₂ = 262} (omega (arith, window-high)) (omega arith) in
      let reads : window w / 2 * CL w ≤ 256 * 127 = mul-le-mul {n₂ = 256} {m₂ = 127} (omega (arith, window-high)) (omega arith) in
      none_or (eqb (window w) 0) (omega arith)

  time-high : (c : Cycles) (n : ℕ) → c.0 ≤ n → (in_time w c).0 ≤ n * 5000
  unfolding in_time
  time-high c n h = mul-le-mul h s.tCK_in.high

  fits : (c : Cycles) → c.0 ≤ 99710 → c.0 * tCK w < 2 ^ 64
  fits c h = let p : c.0 * tCK w ≤ 99710 * 5000 = mul-le-mul h s.tCK_in.high in omega arith

  pub crossing-fits : (pre ⊕ act w ⊕ readwrite w).0 * tCK w < 2 ^ 64
  crossing-fits = fits _ (omega (arith, crossing-high))

  pub conf-fits : (conf w).0 * tCK w < 2 ^ 64
  conf-fits = fits _ (omega (arith, conf-high))

  pub readwrite-fits : (readwrite w).0 * tCK w < 2 ^ 64
  readwrite-fits = fits _ (omega (arith, readwrite-high))

  pub reopen-fits : (reopen w).0 * tCK w < 2 ^ 64
  reopen-fits = fits _ (omega (arith, reopen-high))

  pub run_fits : (run w (window w)).0 * tCK w < 2 ^ 64
  run_fits = fits _ run-high

  pub bounded : FiguresBounded (figures_of w)
  unfolding figures_of
  bounded = record {
    crossing-high = time-high _ 390 crossing-high;
    conflict-high = time-high _ 516 conf-high;
    readwrite-high = time-high _ 262 readwrite-high;
    reopen-high = time-high _ 254 reopen-high;
    run-high = time-high _ 99710 run-high;
    window-high = window-high;
  }
