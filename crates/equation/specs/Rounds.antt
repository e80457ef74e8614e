-- The rounds from a time: as RULES 6.1 counts them (`Rounds`), run (`solve`), and by their times (`Course`). Assumes nothing.
use Rattle.std.specs.Prelude.{◌≡◌, ◌≢◌, true, false, ℕ, zero, suc, ◌≤◌, ◌<◌, max, eqb, ltb}
use Rattle.equation.specs.Outcome.{Outcome, found, nothing}

-- Rounds F D t v n: from t, n rounds give the verdict v. One round applies F. It ends when F(t) = t (holds) or F(t) > D (misses); else t becomes F(t).
pub data Rounds (F : ℕ → ℕ) (D : ℕ) : ℕ → Outcome → ℕ → Type 0 where
  stays : {t : ℕ} → F t ≡ t → Rounds F D t (found t) 1
  passes : {t : ℕ} → D < F t → Rounds F D t nothing 1
  goes : {t n : ℕ} {v : Outcome} → F t ≢ t → F t ≤ D → Rounds F D (F t) v n → Rounds F D t v (suc n)

-- ---- the rounds, run

pub record Solved : Type 0 where
  pub verdict : Outcome
  pub rounds : ℕ

-- the answer with one more round before it
abbrev pub again : Solved → Solved
again a = record { verdict = a.verdict; rounds = suc a.rounds }

-- the rounds from t, with fuel for so many
unfoldable pub climb : (ℕ → ℕ) → ℕ → ℕ → ℕ → Solved
climb F D zero t = record { verdict = nothing; rounds = 0 }
climb F D (suc fuel) t =
    let u = F t in
    elim (eqb u t) [
      | true ↦ record { verdict = found t; rounds = 1 }
      | false ↦
          elim (ltb D u) [ true ↦ record { verdict = nothing; rounds = 1 } | false ↦ again (climb F D fuel u) ]
    ]

-- solve F L D start: a miss in 0 rounds where the lowest start L is above D; else the rounds from the larger of L and the given start.
-- The time rises to at most D, so the fuel lasts
unfoldable pub solve : (ℕ → ℕ) → ℕ → ℕ → ℕ → Solved
unfolding climb
solve F L D start =
    elim (ltb D L) [ true ↦ record { verdict = nothing; rounds = 0 } | false ↦ climb F D (suc D) (max L start) ]

-- ---- the number of rounds

-- the time after k rounds from s
unfoldable pub after : (ℕ → ℕ) → ℕ → ℕ → ℕ
after F s zero = s
after F s (suc k) = F (after F s k)

-- how the last round, from t, ends
pub data Ends (F : ℕ → ℕ) (D t : ℕ) : Outcome → Type 0 where
  still : F t ≡ t → Ends F D t (found t)
  past : D < F t → Ends F D t nothing

-- n rounds from s, the last one from `after F s last`: every round before it raises the time, and to no more than D
pub record Course (F : ℕ → ℕ) (D s : ℕ) (v : Outcome) (n : ℕ) : Type 0 where
  pub last : ℕ
  pub count : n ≡ suc last
  pub climbs : (k : ℕ) → k < last → (after F s k < after F s (suc k)) × (after F s (suc k) ≤ D)
  pub ends : Ends F D (after F s last) v
