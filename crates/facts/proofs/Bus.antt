-- A bus as a kind of board. Assumes nothing.
use mathlib.Core.Path.{◌≡◌, refl, fun_ext, sym, ◌∙◌}
use mathlib.Core.Bool.{not}
use Prim.Native.Nat.{ℕ}
use native.Mathlib.Nat.{mul_comm}
use native.Mathlib.Omega.{arith}
use lib.Dec.{eqb}
use borrow.Author.Tests.{eq-eqb}
use Rattle.laws.specs.Idioms.{up_to}
use Rattle.laws.proofs.Linear.{sum_same, sum_times, sum-those_times}
use Rattle.rules.specs.declared.Table.{Table}
use Rattle.rules.specs.Tasks.{arrivals}
use Rattle.rules.specs.Bus.{slot_in, slot, other_cores, bus_RD, bus_JD}
use Rattle.rules.specs.Board.{bus_memory}
use Rattle.facts.specs.Prices.{job_at, if_other, bus_prices}
use Rattle.facts.specs.Worsened.{Alike}
use Rattle.facts.specs.Lawful.{Lawful}

-- a turn for each request of another core, core by core
JD_by_turns : (t : Table) (p x : ℕ) → bus_JD t p x ≡ job_at t (if_other t p) x
unfolding bus_JD job_at other_cores
JD_by_turns t p x =
    sym (sum_times (slot t).0 (λ q. arrivals t q x) (other_cores t p))
    ∙ sum_same _ _ (other_cores t p) (λ q m. mul_comm (slot t).0 (arrivals t q x))
    ∙ sum-those_times (λ q. not (eqb q p)) (λ q. arrivals t q x) (slot t).0 (up_to t.cores)

same-slot : (a b : Table) → Alike a b → slot a ≡ slot b
unfolding slot_in
same-slot a b alike = rw (alike.figure 1 (omega arith) (omega arith))

pub bus_lawful : Lawful bus_memory bus_prices
unfolding bus_memory bus_prices bus_RD
bus_lawful = record {
  priced = λ t p. rw (fun_ext (JD_by_turns t p));
  own_free = λ t p. rw (eq-eqb p p refl);
  same-request = λ a b alike p low high. rw (alike.cores, same-slot a b alike);
  same-price = λ a b alike p q low high l h. rw (same-slot a b alike);
}
