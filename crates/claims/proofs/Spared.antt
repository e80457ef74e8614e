-- Where the rule of no row hit moves RD, by how much, and that it moves nothing else. Assumes nothing.
use Prim.Native.Nat.{ℕ, ◌+◌, ◌*◌, ◌-◌, ◌≤◌}
use mathlib.Core.Path.{◌≡◌, refl, sym}
use mathlib.Core.Bool.{Bool, true, false}
use mathlib.Core.Logic.{◌⊎◌, inl, inr, ⊎_elim}
use borrow.Author.Tests.{ne_eqb}
use native.Mathlib.Decide.{dec_le}
use native.Mathlib.Nat.{le_of_eq}
use native.Mathlib.Omega.{arith}
use Rattle.laws.specs.Idioms.{is_empty}
use Rattle.rules.specs.declared.Table.{Table}
use Rattle.rules.specs.Timing.{Row, tCK, tWTR, tWR}
use Rattle.rules.specs.Units.{cycles, in_time}
use Rattle.rules.specs.Kinds.{is_bus}
use Rattle.rules.specs.Delays.{run, window}
use Rattle.rules.specs.Cores.{near}
use Rattle.rules.specs.Dram.{intra, RD}
use Rattle.rules.specs.Board.{dram_memory, memory_of}
use Rattle.claims.specs.NoRun.{former_run, former_intra, former_memory, Spared}

pub no_hit : (w : Row) → run w 0 ≡ cycles 0
unfolding run
no_hit w = refl

pub some-hit : (w : Row) (m : ℕ) → 1 ≤ m → run w m ≡ former_run w m
unfolding run former_run
some-hit w m h = rw (ne_eqb m 0 (λ e. omega arith))

module _ (t : Table) (p : ℕ) where
  pub RD-falls : Spared t p → (former_memory t p).per_request ≡ (memory_of t p).per_request + (tWR t.timing - tWTR t.timing) * tCK t.timing
  unfolding former_memory memory_of dram_memory RD intra former_intra in_time run former_run
  RD-falls s = rw (s.dram, s.some_near, s.no_hits) (omega arith)

  -- it falls, or it is what it was
  moves_or_not : (bus alone : Bool) → is_bus t ≡ bus → is_empty (near t p) ≡ alone → Dec (1 ≤ window t.timing)
      → Spared t p ⊎ ((former_memory t p).per_request ≡ (memory_of t p).per_request)
  unfolding former_memory memory_of dram_memory RD intra former_intra
  moves_or_not true alone on e hits = inr (rw on)
  moves_or_not false true off e hits = inr (rw (off, e))
  moves_or_not false false off e (yes some) = inr (rw (off, e, some-hit t.timing (window t.timing) some))
  moves_or_not false false off e (no none) = inl (record { dram = off; no_hits = omega arith; some_near = e })

  spared_or_not : Spared t p ⊎ ((former_memory t p).per_request ≡ (memory_of t p).per_request)
  spared_or_not = moves_or_not (is_bus t) (is_empty (near t p)) refl refl (dec_le 1 (window t.timing))

  pub RD-stays : ¬ Spared t p → (former_memory t p).per_request ≡ (memory_of t p).per_request
  RD-stays not = ⊎_elim (λ s. absurd (not s)) (λ e. e) spared_or_not

  pub RD_no_more : (memory_of t p).per_request ≤ (former_memory t p).per_request
  RD_no_more = ⊎_elim (λ s. omega (arith, RD-falls s)) (λ e. le_of_eq (sym e)) spared_or_not

  same-JD : (x : ℕ) (bus : Bool) → is_bus t ≡ bus → (former_memory t p).per_job x ≡ (memory_of t p).per_job x
  unfolding former_memory memory_of dram_memory
  same-JD x true on = rw on
  same-JD x false off = rw off

  pub JD-stays : (x : ℕ) → (former_memory t p).per_job x ≡ (memory_of t p).per_job x
  JD-stays x = same-JD x (is_bus t) refl
