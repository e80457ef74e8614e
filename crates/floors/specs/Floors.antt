-- Requests of cores at their weights, and what other cores cost a job at least. Assumes nothing.
use Rattle.std.specs.Prelude.{ℕ, ◌+◌, ◌*◌, ◌≤◌, ◌<◌, ◌^◌, ◌≡◌, List, length, get_or}
use Rattle.rules.specs.declared.Picos.{Picos}
use Rattle.rules.specs.Units.{ps}
use Rattle.counts.specs.Counts.{sum_below, sum_from, twice_of, Bounded}
use Rattle.floors.specs.declared.Others.{Others}

-- what so many requests of the core in place q cost, at its weight; and those of all cores
abbrev pub weighed_at : List Picos → (ℕ → ℕ) → ℕ → ℕ
weighed_at weight requests q = requests q * (get_or weight q (ps 0)).0

unfoldable pub weighed : ℕ → List Picos → (ℕ → ℕ) → ℕ
weighed cores weight requests = sum_below (weighed_at weight requests) cores

-- ---- the tasks of all cores, core after core: those of the core in place q are in places begins[q] to begins[q + 1]

-- their requests
pub record Lots (cores : ℕ) (begins asks : List ℕ) : Type 0 where
  pub few : cores ≤ 8
  pub each : (q : ℕ) → q < cores → Bounded (10 ^ 6) (get_or begins q 0) (get_or begins (q + 1) 0) asks

-- those of two jobs of each
unfoldable pub twice_on : List ℕ → List ℕ → ℕ → ℕ
twice_on begins asks q = sum_from (twice_of asks) (get_or begins q 0) (get_or begins (q + 1) 0)

pub record DoubledAt (begins asks doubled : List ℕ) (q : ℕ) : Type 0 where
  pub is : get_or doubled q 0 ≡ twice_on begins asks q
  pub high : get_or doubled q 0 ≤ 32 * (2 * 10 ^ 6)

pub record Doubled (cores : ℕ) (begins asks doubled : List ℕ) : Type 0 where
  pub long : length doubled ≡ 8
  pub each : (q : ℕ) → q < cores → DoubledAt begins asks doubled q

-- ---- the floor

abbrev pub others_with : ℕ → List Picos → (ℕ → ℕ) → Others
others_with cores weight requests = record { cores = cores; weight = weight; floor = ps (weighed cores weight requests) }

-- no weight and no count of requests is too large
pub record FitsAt (weight : List Picos) (doubled : List ℕ) (q : ℕ) : Type 0 where
  pub weight-high : (get_or weight q (ps 0)).0 ≤ 2 * 10 ^ 7
  pub requests-high : get_or doubled q 0 ≤ 32 * (2 * 10 ^ 6)

pub record Fits (cores : ℕ) (weight : List Picos) (doubled : List ℕ) : Type 0 where
  pub few : cores ≤ 8
  pub each : (q : ℕ) → q < cores → FitsAt weight doubled q
