-- What judging needs of a board's memory, as prices: a job's delay is a sum over the cores. Assumes nothing.
use Rattle.std.specs.Prelude.{ℕ, ◌+◌, ◌*◌, cond, not, eqb}
use Rattle.rules.specs.declared.Table.{Table}
use Rattle.laws.specs.Idioms.{sum_over, up_to}
use Rattle.rules.specs.Tasks.{arrivals}
use Rattle.rules.specs.Cores.{is_near, is_far, near}
use Rattle.rules.specs.Kinds.{is_bus}
use Rattle.rules.specs.Dram.{crossing, conflict, RD}
use Rattle.rules.specs.Bus.{slot, bus_RD}
use Rattle.rules.specs.Board.{Memory}

-- for one core: what one of its requests costs, and what one request of core q costs one of its jobs
pub record Prices : Type 0 where
  pub per_request : ℕ
  pub per_core : ℕ → ℕ

-- what the requests of all cores in x cost a job at such prices
unfoldable pub job_at : Table → (ℕ → ℕ) → ℕ → ℕ
job_at t price x = sum_over (up_to t.cores) (λ q. arrivals t q x * price q)

-- the memory that prices make
abbrev pub priced_memory : Table → Prices → Memory
priced_memory t prices = record { per_request = prices.per_request; per_job = job_at t prices.per_core }

-- DRAM: a crossing if q is far from p, a conflict if it is near, and a crossing for each core near p that q is far from
abbrev pub if_far : Table → ℕ → ℕ → ℕ
if_far t p q = cond (is_far t p q) (crossing t).0 0

abbrev pub if_near : Table → ℕ → ℕ → ℕ
if_near t p q = cond (is_near t p q) (conflict t).0 0

unfoldable pub weight : Table → ℕ → ℕ → ℕ
weight t p q = if_far t p q + if_near t p q + sum_over (near t p) (λ r. if_far t r q)

unfoldable pub dram_prices : Table → ℕ → Prices
dram_prices t p = record { per_request = RD t p; per_core = weight t p }

-- a bus: a turn if q is another core
abbrev pub if_other : Table → ℕ → ℕ → ℕ
if_other t p q = cond (not (eqb q p)) (slot t).0 0

unfoldable pub bus_prices : Table → ℕ → Prices
bus_prices t p = record { per_request = bus_RD t; per_core = if_other t p }

-- the prices that core p of a table sees. They make what `memory_of` says (proofs/Boards.antt)
unfoldable pub prices_of : Table → ℕ → Prices
prices_of t p = cond (is_bus t) (bus_prices t p) (dram_prices t p)
