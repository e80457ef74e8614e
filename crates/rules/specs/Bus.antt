-- RULES 4.8 and 4.9: what a bus does to one request and to one job. In picoseconds. Assumes nothing.
use Rattle.std.specs.Prelude.{ℕ, ◌*◌, ◌-◌, not, List, eqb, get_or}
use Rattle.rules.specs.declared.Table.{Table}
use Rattle.rules.specs.declared.Picos.{Picos}
use Rattle.laws.specs.Idioms.{sum_over, those, up_to}
use Rattle.rules.specs.Timing.{Row}
use Rattle.rules.specs.Units.{ps}
use Rattle.rules.specs.Tasks.{arrivals}

-- RULES 2.8: s, the first figure of a row. It is a time as it stands
unfoldable pub slot_in : Row → Picos
slot_in w = ps (get_or w 0 0)

abbrev pub slot : Table → Picos
slot t = slot_in t.timing

-- the other cores of the table: RULES 4.9
unfoldable pub other_cores : Table → ℕ → List ℕ
other_cores t p = those (λ q. not (eqb q p)) (up_to t.cores)

-- RULES 4.8
unfoldable pub bus_RD : Table → ℕ
bus_RD t = (t.cores - 1) * (slot t).0

-- RULES 4.9; here t is the table and x the time
unfoldable pub bus_JD : Table → ℕ → ℕ → ℕ
bus_JD t p x = (slot t).0 * sum_over (other_cores t p) (λ q. arrivals t q x)
