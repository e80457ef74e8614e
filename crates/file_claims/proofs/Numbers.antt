-- Which refusals the checks of a file and of a table give. Assumes nothing.
use mathlib.Core.Path.{◌≡◌, refl}
use mathlib.Core.Bool.{Bool, true, false, cond, not, ◌||◌}
use mathlib.Core.Logic.{◌⊎◌, inl, inr}
use mathlib.Core.List.{List}
use Prim.Native.Nat.{ℕ, zero, suc, ◌+◌, ◌-◌, ◌≤◌}
use native.Mathlib.Omega.{arith}
use lib.Dec.{ltb, eqb}
use lib.ListN.{length, take}
use Rattle.laws.specs.Idioms.{Within, number_in, part}
use Rattle.rules.specs.declared.Refusal.{Refusal}
use Rattle.rules.specs.declared.Table.{Table}
use Rattle.rules.specs.Cores.{set_of}
use Rattle.rules.specs.Kinds.{is_bus}
use Rattle.rules.specs.Tasks.{task_of}
use Rattle.rules.specs.Chain.{accepted, refused, is_accepted, ◌or_else◌, given, first_from}
use Rattle.rules.specs.Refusals.{counts_fault, figure_fault, relation_fault, check_timing, bus_fault, check_bus, check_row, set_fault, core_fault, time_fault, request_fault, board_refusal, tasks_refusal, check_board, check_tasks, check_table}
use Rattle.rules.specs.File.{file_length, cores_in, tasks_in, form_in, sum_of, running_sum, check_trailer, check_whole}

-- nothing is refused, or a refusal is given of which P is so
pub data Gives (P : Refusal → Type 0) : Refusal → Type 0 where
  nothing : Gives P accepted
  some : {r : Refusal} → P r → Gives P r

pub both_give : {P : Refusal → Type 0} {a b : Refusal} → Gives P a → Gives P b → Gives P (a or_else b)
both_give nothing q = q
both_give {P} {b = b} (some {r = r} p) q = go (is_accepted r)
  where
    go : (x : Bool) → Gives P (cond x b r)
    go true = q
    go false = some p

pub given_gives : {P : Refusal → Type 0} (n place : ℕ) (fault : Bool) → P (refused n place) → Gives P (given n place fault)
given_gives n place true p = some p
given_gives n place false p = nothing

first_gives : {P : Refusal → Type 0} (n : ℕ) (fault : ℕ → Bool) → ((k : ℕ) → P (refused n k)) → (k m : ℕ) → Gives P (first_from n fault k m)
unfolding first_from
first_gives n fault p k zero = nothing
first_gives {P} n fault p k (suc m) = go (fault k) (first_gives n fault p (k + 1) m)
  where
    go : (x : Bool) → Gives P (first_from n fault (k + 1) m) → Gives P (cond x (refused n k) (first_from n fault (k + 1) m))
    go true rest = some (p k)
    go false rest = rest

pub wider : {P Q : Refusal → Type 0} {r : Refusal} → ((x : Refusal) → P x → Q x) → Gives P r → Gives Q r
wider all nothing = nothing
wider all (some {r = r} p) = some (all r p)

-- ---- of a file: did it come whole?

abbrev pub OfWhole : Refusal → Type 0
OfWhole r = (r.number ≤ 4) × (r.place ≡ 0)

module _ (s : List ℕ) where
  trailer_gives : Gives OfWhole (check_trailer s)
  unfolding check_trailer
  trailer_gives =
      both_give (given_gives 3 0 (not (eqb (number_in (part s (length s - 12) 4)) (length s - 12))) (omega arith, refl))
      (given_gives 4 0
      (not (eqb (number_in (part s (length s - 8) 4)) (sum_of (take (length s - 12) s))) || not (eqb (number_in (part s (length s - 4) 4)) (running_sum (take (length s - 12) s))))
      (omega arith, refl))

  pub whole_gives : Gives OfWhole (check_whole s)
  unfolding check_whole
  whole_gives =
      both_give
      (both_give (given_gives 1 0 (ltb (length s) 46) (omega arith, refl))
      (given_gives 2 0 (not (eqb (length s) (file_length (form_in s) (cores_in s) (tasks_in s)))) (omega arith, refl)))
      trailer_gives

-- ---- of a table

abbrev pub OfTable : Refusal → Type 0
OfTable r = Within 5 11 r.number ⊎ (r.number ≡ 16)

low : (n : ℕ) → 5 ≤ n → n ≤ 11 → (k : ℕ) → OfTable (refused n k)
low n a b k = inl (record { low = a; high = b })

module _ (t : Table) where
  timing_gives : Gives OfTable (check_timing t.timing)
  unfolding check_timing
  timing_gives = both_give (first_gives 6 (figure_fault t.timing) (low 6 (omega arith) (omega arith)) 1 15) (first_gives 7 (relation_fault t.timing) (low 7 (omega arith) (omega arith)) 1 5)

  bus_gives : Gives OfTable (check_bus t.timing)
  unfolding check_bus
  bus_gives = first_gives 16 (bus_fault t.timing) (λ k. inr refl) 1 15

  row_gives : Gives OfTable (check_row t.fourth t.timing)
  unfolding check_row
  row_gives = go (is_bus t)
    where
      go : (b : Bool) → Gives OfTable (cond b (check_bus t.timing) (check_timing t.timing))
      go true = bus_gives
      go false = timing_gives

  board_gives : Gives OfTable (check_board t)
  unfolding check_board board_refusal
  board_gives =
      both_give
      (both_give (given_gives 5 0 (counts_fault t.cores t.partitions t.tasks t.fourth) (low 5 (omega arith) (omega arith) 0)) row_gives)
      (first_gives 8 (λ p. set_fault t.partitions (set_of t p)) (low 8 (omega arith) (omega arith)) 1 t.cores)

  tasks_give : Gives OfTable (check_tasks t)
  unfolding check_tasks tasks_refusal
  tasks_give =
      both_give
      (both_give (first_gives 9 (λ k. core_fault t.cores (task_of t k)) (low 9 (omega arith) (omega arith)) 1 t.tasks)
      (first_gives 10 (λ k. time_fault (task_of t k)) (low 10 (omega arith) (omega arith)) 1 t.tasks))
      (first_gives 11 (λ k. request_fault (task_of t k)) (low 11 (omega arith) (omega arith)) 1 t.tasks)

  pub table_gives : Gives OfTable (check_table t)
  unfolding check_table
  table_gives = both_give board_gives tasks_give
