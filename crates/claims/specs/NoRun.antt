-- RULES 3.5 against the rule that it replaced, by which a run of no row hit took tWR − tWTR: what the new rule moves, and that it moves nothing else.
-- Assumes nothing.
use Rattle.std.specs.Prelude.{ℕ, ◌+◌, ◌*◌, ◌-◌, ◌/◌, ◌≤◌, ◌≡◌, false, cond, List, [], ◌∷◌, length}
use Rattle.equation.specs.Outcome.{Solution}
use Rattle.laws.specs.Idioms.{◌/↑◌, sum_over, is_empty}
use Rattle.rules.specs.declared.Table.{Table}
use Rattle.rules.specs.declared.Cycles.{Cycles}
use Rattle.rules.specs.Timing.{Row, tCK, CL, WL, BL, tWTR, tWR}
use Rattle.rules.specs.Units.{cycles, in_time}
use Rattle.rules.specs.Tasks.{latest, task_of, core_of, higher}
use Rattle.rules.specs.Kinds.{is_bus}
use Rattle.rules.specs.Delays.{readwrite, reopen, run, window}
use Rattle.rules.specs.Cores.{near, far}
use Rattle.rules.specs.Dram.{conflict, inter, JD}
use Rattle.rules.specs.Board.{Memory, bus_memory, memory_of}
use Rattle.rules.specs.Response.{response}
use Rattle.rules.specs.Figures.{Figure, value, AllAgree, sharing2, sharing_and_apart}
use Rattle.file_claims.specs.Files.{AcceptedTable}
use Rattle.claims.specs.Point2.{JudgedTask, HoldsFresh}

-- the former rule, of every m, 0 too; it stands nowhere else
unfoldable pub former_run : Row → ℕ → Cycles
former_run w m = cycles (m /↑ 2 * (WL w + BL w / 2 + tWTR w) + m / 2 * CL w + (tWR w - tWTR w))

-- RULES 4.3 with it
unfoldable pub former_intra : Table → ℕ → ℕ
former_intra t p =
    cond (is_empty (near t p)) 0
    ((in_time t.timing (former_run t.timing (window t.timing))).0
    + window t.timing * (in_time t.timing (readwrite t.timing)).0 * length (far t p)
    + (in_time t.timing (reopen t.timing)).0
    + sum_over (near t p) (λ q. (conflict t).0 + inter t q))

-- RULES 4.4 and 1.6 with it; JD (RULES 4.7) and a bus (RULES 4.8, 4.9) have no run in them
unfoldable pub former_memory : Table → ℕ → Memory
former_memory t p = cond (is_bus t) (bus_memory t p) (record { per_request = inter t p + former_intra t p; per_job = JD t p })

-- RULES 5.4 with it: what F of task k was
abbrev pub former_F : Table → ℕ → ℕ → ℕ
former_F t k = response (former_memory t (core_of t k)) (task_of t k) (higher t k)

-- where the rule matters: the window of a DRAM table is 0, and core p has another core near it
pub record Spared (t : Table) (p : ℕ) : Type 0 where
  pub dram : is_bus t ≡ false
  pub no_hits : window t.timing ≡ 0
  pub some_near : is_empty (near t p) ≡ false

-- RULES 11.13: RD, formerly and now
unfoldable pub formerly_and_now : List Figure
formerly_and_now =
    value (former_memory (sharing2 0) 1).per_request 93000
    ∷ value (memory_of (sharing2 0) 1).per_request 85500
    ∷ value (former_memory (sharing_and_apart 0) 1).per_request 168000
    ∷ value (memory_of (sharing_and_apart 0) 1).per_request 160500
    ∷ value (former_memory (sharing_and_apart 0) 3).per_request 75000
    ∷ value (memory_of (sharing_and_apart 0) 3).per_request 75000
    ∷ []

-- of every row and every table, accepted or not, where nothing else is said
pub record NoRun : Type 0 where
  pub none : (w : Row) → run w 0 ≡ cycles 0
  pub every-other : (w : Row) (m : ℕ) → 1 ≤ m → run w m ≡ former_run w m
  -- RD falls by the rest of a run, and no further: tRP + tRCD stay
  pub falls : (t : Table) (p : ℕ) → Spared t p
      → (former_memory t p).per_request ≡ (memory_of t p).per_request + (tWR t.timing - tWTR t.timing) * tCK t.timing
  -- of an accepted table that difference is not cut off
  pub not_cut_off : (t : Table) → AcceptedTable t → is_bus t ≡ false → tWTR t.timing ≤ tWR t.timing
  -- no other RD moves, and no JD
  pub RD-stays : (t : Table) (p : ℕ) → ¬ Spared t p → (former_memory t p).per_request ≡ (memory_of t p).per_request
  pub JD-stays : (t : Table) (p x : ℕ) → (former_memory t p).per_job x ≡ (memory_of t p).per_job x
  -- so a task that had a bound has one, and no later: it holds no later than any time that satisfied its equation
  pub no_later : (t : Table) (k : ℕ) → JudgedTask t k → (R : ℕ) → Solution (former_F t k) 1 (latest (task_of t k)) R → HoldsFresh t k R
  pub figures : AllAgree formerly_and_now
