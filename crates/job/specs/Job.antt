-- Job from plain lists: what the tasks of all cores, core after core, cost a job. Those of the core in place q are in places begins[q] to begins[q + 1].
-- Assumes nothing.
use Rattle.std.specs.Prelude.{ℕ, ◌+◌, ◌*◌, ◌-◌, ◌≤◌, ◌<◌, ◌^◌, ◌≡◌, List, get_or}
use Rattle.rules.specs.Units.{ps}
use Rattle.counts.specs.Counts.{sum_from, later_of, asked_by, Slots}
use Rattle.floors.specs.declared.Others.{Others}
use Rattle.floors.specs.Floors.{weighed, twice_on}

-- RULES 4.5, of the core in place q
unfoldable pub arrived_on : List ℕ → List ℕ → List ℕ → ℕ → ℕ → ℕ
arrived_on begins periods asks t q = asked_by 1 t (get_or begins q 0) (get_or begins (q + 1) 0) periods asks

-- RULES 5.3
unfoldable pub job_by : Others → List ℕ → List ℕ → List ℕ → ℕ → ℕ
job_by others begins periods asks t = weighed others.cores others.weight (arrived_on begins periods asks t)

-- job; or as much of it as is no less than request
pub record Reached (request job r : ℕ) : Type 0 where
  pub low : r ≤ job
  pub full : r < request → r ≡ job
  pub high : r ≤ 33 * (10000 * (2 * 10 ^ 13))

-- of one core what is above the first jobs, at so much a request
pub record Charged (a e : ℕ) (periods asks : List ℕ) (weight t r : ℕ) : Type 0 where
  pub is : r ≡ sum_from (later_of t periods asks) a e * weight
  pub high : r ≤ (e - a) * (10000 * (2 * 10 ^ 13))

-- ---- what the code may rely on

pub record Group (others : Others) (begins periods asks : List ℕ) (q : ℕ) : Type 0 where
  pub slots : Slots (10 ^ 6) (get_or begins q 0) (get_or begins (q + 1) 0) periods asks
  pub weight-high : (get_or others.weight q (ps 0)).0 ≤ 2 * 10 ^ 7

pub record Groups (others : Others) (begins periods asks : List ℕ) : Type 0 where
  pub few : others.cores ≤ 8
  pub each : (q : ℕ) → q < others.cores → Group others begins periods asks q
  pub floor_is : others.floor ≡ ps (weighed others.cores others.weight (twice_on begins asks))
