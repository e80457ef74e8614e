-- Point 2: the verdict of `solve` is right. Assumes nothing.
use mathlib.Core.Path.{◌≡◌}
use Prim.Native.Nat.{ℕ, ◌≤◌, zero-le, max}
use native.Mathlib.Decide.{dec_le}
use native.Mathlib.Omega.{arith}
use Rattle.equation.specs.Equation.{Equation}
use Rattle.equation.specs.Outcome.{Outcome, Correct, none}
use Rattle.equation.specs.Rounds.{Rounds, solve}
use Rattle.equation.specs.Start.{Allowed}
use Rattle.equation.proofs.Least.{right-from, rounds-right}
use Rattle.equation.proofs.Run.{solve-none, solve-run, start_fits, rounds_unique}

module _ {F : ℕ → ℕ} {L D : ℕ} (eq : Equation F L) where
  -- from a start that is not refused: the least solution at or above it
  pub solve-right : {start : ℕ} → Allowed F L D start → Correct F (max L start) D (solve F L D start).verdict
  solve-right {start} a = go (dec_le L D)
    where
      go : Dec (L ≤ D) → Correct F (max L start) D (solve F L D start).verdict
      go (yes l) = rounds-right eq (solve-run eq a l) (a.rises l) (start_fits a l)
      go (no q) = rw (solve-none F L D start (omega arith)) (none (λ r p. omega (arith, p.from, p.upto)))

  -- rounds made otherwise, as by a loop, are those of `solve`
  pub solve-only : {start n : ℕ} {v : Outcome} → Allowed F L D start → L ≤ D → Rounds F D (max L start) v n
      → (v ≡ (solve F L D start).verdict) × (n ≡ (solve F L D start).rounds)
  solve-only a l k = rounds_unique (start_fits a l) k (solve-run eq a l)

  -- a fresh start is not refused
  pub fresh-allowed : Allowed F L D 0
  fresh-allowed = record { given = zero-le; rises = λ l. omega (arith, eq.above (max L 0) (omega (arith, eq.some))) }

  -- from a fresh start: the least solution from 1
  pub solve-fresh : Correct F 1 D (solve F L D 0).verdict
  solve-fresh =
      right-from (omega (arith, eq.some)) (λ r p. omega (arith, eq.above r p.from, p.solves)) (solve-right fresh-allowed)
