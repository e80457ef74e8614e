-- The releases of a task are a count, and are no fewer where the period is shorter. Assumes nothing.
use Prim.Native.Nat.{ℕ, suc, ◌+◌, ◌-◌, ◌*◌, ◌≤◌, ◌<◌}
use native.Mathlib.Omega.{arith}
use native.Mathlib.Nat.{le_trans, le_of_suc-le-suc, mul-le-mul_left, div-lt_iff_lt-mul}
use Rattle.equation.specs.Equation.{Count}
use Rattle.rules.specs.declared.Task.{Task}
use Rattle.laws.proofs.Quotients.{ceil-rises, ceil_pos}
use Rattle.laws.specs.Idioms.{◌/↑◌}
use Rattle.rules.specs.Tasks.{T, releases}

pub releases_rise : (j : Task) (t u : ℕ) → t ≤ u → releases j t ≤ releases j u
unfolding releases
releases_rise j t u later = ceil-rises (T j) later

pub releases-count : (j : Task) → 1 ≤ T j → Count (releases j)
unfolding releases
releases-count j pos = record { rises = releases_rise j; some = λ t h. ceil_pos t (T j) h pos }

-- a time that so many shorter periods cover is covered by as many longer ones
ceil_shorter : (t a b : ℕ) → 1 ≤ b → b ≤ a → t /↑ a ≤ t /↑ b
ceil_shorter t a b pos shorter =
    let short : t + (b - 1) < suc (t /↑ b) * b = (div-lt_iff_lt-mul pos).0 (omega arith) in
    let long : t + (a - 1) < suc (t /↑ b) * a = omega (arith, mul-le-mul_left (t /↑ b) shorter) in
    le_of_suc-le-suc ((div-lt_iff_lt-mul (le_trans pos shorter)).1 long)

pub releases_shorter : (i j : Task) → T j ≤ T i → 1 ≤ T j → (t : ℕ) → releases i t ≤ releases j t
unfolding releases
releases_shorter i j shorter pos t = ceil_shorter t (T i) (T j) pos shorter
