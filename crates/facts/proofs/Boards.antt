-- Any board's memory by its prices, and two boards' where one table is the other worsened: used for every kind. Assumes nothing.
use mathlib.Core.Path.{◌≡◌, ap, ◌∙◌}
use mathlib.Core.Bool.{Bool, true, false, cond}
use Prim.Native.Nat.{ℕ, ◌≤◌}
use native.Mathlib.Nat.{le_of_eq}
use Rattle.laws.proofs.Paired.{paired_map}
use Rattle.rules.specs.declared.Task.{Task}
use Rattle.rules.specs.declared.Table.{Table}
use Rattle.rules.specs.Tasks.{elsewhere}
use Rattle.rules.specs.Kinds.{is_bus, says_bus}
use Rattle.rules.specs.Board.{dram_memory, bus_memory, memory_of}
use Rattle.facts.specs.Prices.{dram_prices, bus_prices, prices_of, priced_memory}
use Rattle.facts.specs.Steady.{Steady, Slower}
use Rattle.facts.specs.Sound.{Sound}
use Rattle.facts.specs.Worsened.{Alike, Worsened}
use Rattle.facts.specs.Lawful.{Lawful}
use Rattle.facts.proofs.Priced.{job_no_more, priced-steady}
use Rattle.facts.proofs.Kept.{Kept, kept_no_more, kept-elsewhere}
use Rattle.facts.proofs.Dram.{dram_lawful}
use Rattle.facts.proofs.Bus.{bus_lawful}

-- ---- each table has the memory and the prices of one kind, and so have boards alike

module _ (t : Table) (p : ℕ) where
  priced_by : (bus : Bool) → cond bus (bus_memory t p) (dram_memory t p) ≡ priced_memory t (cond bus (bus_prices t p) (dram_prices t p))
  priced_by true = bus_lawful.priced t p
  priced_by false = dram_lawful.priced t p

  free_by : (bus : Bool) → (cond bus (bus_prices t p) (dram_prices t p)).per_core p ≡ 0
  free_by true = bus_lawful.own_free t p
  free_by false = dram_lawful.own_free t p

module _ (a b : Table) (alike : Alike a b) where
  same_kind : is_bus a ≡ is_bus b
  same_kind = ap says_bus alike.fourth

  module _ (p : ℕ) (low : 1 ≤ p) (high : p ≤ a.cores) where
    request_by : (bus : Bool) → (cond bus (bus_prices a p) (dram_prices a p)).per_request ≡ (cond bus (bus_prices b p) (dram_prices b p)).per_request
    request_by true = bus_lawful.same-request a b alike p low high
    request_by false = dram_lawful.same-request a b alike p low high

    price_by : (q : ℕ) → 1 ≤ q → q ≤ a.cores → (bus : Bool)
        → (cond bus (bus_prices a p) (dram_prices a p)).per_core q ≡ (cond bus (bus_prices b p) (dram_prices b p)).per_core q
    price_by q l h true = bus_lawful.same-price a b alike p q low high l h
    price_by q l h false = dram_lawful.same-price a b alike p q low high l h

pub board_lawful : Lawful memory_of prices_of
unfolding memory_of prices_of
board_lawful = record {
  priced = λ t p. priced_by t p (is_bus t);
  own_free = λ t p. free_by t p (is_bus t);
  same-request = λ a b alike p low high. rw (same_kind a b alike) (request_by a b alike p low high (is_bus b));
  same-price = λ a b alike p q low high l h. rw (same_kind a b alike) (price_by a b alike p low high q l h (is_bus b));
}

-- ---- whatever the kind

pub memory-priced : (t : Table) (p : ℕ) → memory_of t p ≡ priced_memory t (prices_of t p)
memory-priced = board_lawful.priced

pub memory-steady : (t : Table) → Sound t → (p : ℕ) → Steady (memory_of t p) (elsewhere t p)
memory-steady t s p = rw (memory-priced t p) (priced-steady t s p (prices_of t p).per_core (board_lawful.own_free t p) (prices_of t p).per_request)

module _ (older newer : Table) (was : Sound older) (is : Sound newer) (worse : Worsened older newer) (p : ℕ) (low : 1 ≤ p) (high : p ≤ older.cores) where
  kept-price : (i j : Task) → Kept older.cores i j → (prices_of older p).per_core i.core ≡ (prices_of newer p).per_core j.core
  kept-price i j h =
      let core = h.was.core_in in
      board_lawful.same-price older newer worse.board p i.core low high core.low core.high
      ∙ ap (prices_of newer p).per_core h.raised.core

  pub memory-slower : Slower (memory_of older p) (memory_of newer p)
  memory-slower = rw (memory-priced older p, memory-priced newer p) (record {
    per_request = le_of_eq (board_lawful.same-request older newer worse.board p low high);
    per_job = λ x.
        job_no_more p (board_lawful.own_free older p) (board_lawful.own_free newer p) older newer was is x x
        (paired_map
        (λ i j h. record { asks = kept_no_more x i j h; costs = le_of_eq (kept-price i j h) })
        (kept-elsewhere older newer was is worse p));
  })
