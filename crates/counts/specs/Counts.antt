-- What the tasks in places of plain lists ask for in a time. Assumes nothing.
use Rattle.std.specs.Prelude.{ℕ, zero, suc, ◌+◌, ◌*◌, ◌-◌, ◌≤◌, ◌<◌, ◌^◌, ◌≡◌, List, replicate, get_or}
use Rattle.laws.specs.Idioms.{◌/↑◌, Within}
use Rattle.counts.specs.declared.Grouped.{Grouped}

-- no tasks
abbrev pub no_tasks : Grouped
no_tasks =
    record { begins = replicate 9 0; periods = replicate 33 0; inverses = replicate 33 0; execs = replicate 33 0; requests = replicate 33 0 }

-- the sum over the first n places, and over the places from a to e
unfoldable pub sum_below : (ℕ → ℕ) → ℕ → ℕ
sum_below f zero = 0
sum_below f (suc n) = sum_below f n + f n

unfoldable pub sum_from : (ℕ → ℕ) → ℕ → ℕ → ℕ
sum_from f a e = sum_below (λ j. f (a + j)) (e - a)

-- a cost for each release of the task in place i (RULES 5.1), and for one job more where one is carried in (RULES 4.5)
unfoldable pub released : ℕ → ℕ → List ℕ → List ℕ → ℕ → ℕ
released carried t periods costs i = (t /↑ get_or periods i 0 + carried) * get_or costs i 0

-- a cost for each release after the first
unfoldable pub later_of : ℕ → List ℕ → List ℕ → ℕ → ℕ
later_of t periods costs i = (t /↑ get_or periods i 0 - 1) * get_or costs i 0

-- two jobs of the task in place i
unfoldable pub twice_of : List ℕ → ℕ → ℕ
twice_of costs i = 2 * get_or costs i 0

abbrev pub asked_by : ℕ → ℕ → ℕ → ℕ → List ℕ → List ℕ → ℕ
asked_by carried t a e periods costs = sum_from (released carried t periods costs) a e

-- a sum over places a to e, with at most so much in each
pub record Summed (highest : ℕ) (f : ℕ → ℕ) (a e r : ℕ) : Type 0 where
  pub is : r ≡ sum_from f a e
  pub high : r ≤ (e - a) * highest

-- in places a to e, at most 32, stand costs up to a highest
pub record Bounded (highest a e : ℕ) (costs : List ℕ) : Type 0 where
  pub rises : a ≤ e
  pub few : e ≤ 32
  pub cost : (i : ℕ) → a ≤ i → i < e → get_or costs i 0 ≤ highest

-- and beside them periods of accepted tasks
pub record Slots (highest a e : ℕ) (periods costs : List ℕ) : Type 0 where
  pub bounded : Bounded highest a e costs
  pub period : (i : ℕ) → a ≤ i → i < e → Within (10 ^ 8) (10 ^ 12) (get_or periods i 0)
