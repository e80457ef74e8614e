-- Worked runs of `solve`, by computation, for a task with one higher task. Assumes nothing.
use mathlib.Core.Path.{◌≡◌, refl}
use Prim.Native.Nat.{ℕ, ◌+◌, ◌-◌, ◌*◌, ◌/◌, ◌^◌}
use Rattle.equation.specs.Outcome.{found, nothing}
use Rattle.equation.specs.Rounds.{solve}

ceil : ℕ → ℕ → ℕ
ceil t T = (t + (T - 1)) / T

-- two solutions: a fresh start finds the least, and a start above it the other
two : ℕ → ℕ
two t = 3 * 10 ^ 9 + ceil t (10 ^ 10) * (6 * 10 ^ 9)

two-fresh : solve two (3 * 10 ^ 9) (2 * 10 ^ 10) 0 ≡ record { verdict = found (9 * 10 ^ 9); rounds = 2 }
unfolding solve two ceil
two-fresh = refl

two-given : solve two (3 * 10 ^ 9) (2 * 10 ^ 10) (12 * 10 ^ 9) ≡ record { verdict = found (15 * 10 ^ 9); rounds = 2 }
unfolding solve two ceil
two-given = refl

-- the same least solution: it holds where it is the deadline, and misses where the deadline is one less
two_just_holds : solve two (3 * 10 ^ 9) (9 * 10 ^ 9) 0 ≡ record { verdict = found (9 * 10 ^ 9); rounds = 2 }
unfolding solve two ceil
two_just_holds = refl

two-misses : solve two (3 * 10 ^ 9) (9 * 10 ^ 9 - 1) 0 ≡ record { verdict = nothing; rounds = 1 }
unfolding solve two ceil
two-misses = refl

-- a lowest start above the deadline
two_none : solve two (3 * 10 ^ 9) (3 * 10 ^ 9 - 1) 0 ≡ record { verdict = nothing; rounds = 0 }
unfolding solve two ceil
two_none = refl

-- a thousand rounds, each of ten more
ten_more : ℕ → ℕ
ten_more t = 1 + ceil t 10 * 10

thousand : solve ten_more 1 10000 0 ≡ record { verdict = nothing; rounds = 1000 }
unfolding solve ten_more ceil
thousand = refl
