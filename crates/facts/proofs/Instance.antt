-- The response equation of an accepted table is one that the theory asks for. Assumes nothing.
use mathlib.Core.Path.{◌≡◌, refl}
use mathlib.Core.Bool.{true}
use mathlib.Core.Logic.{◌⊎◌, inl, inr}
use mathlib.Core.List.Memᴰ
use mathlib.Core.List.{List, [], ◌∷◌, map, Memᴰ}
use Prim.Native.Nat.{ℕ, ◌-◌, ◌≤◌}
use native.Mathlib.Omega.{arith}
use Rattle.equation.specs.Equation.{Equation, renewals, most-rounds}
use Rattle.rules.specs.declared.Task.{Task}
use Rattle.rules.specs.declared.Table.{Table}
use Rattle.rules.specs.Tasks.{T, releases, latest, task_of, core_of, higher, elsewhere}
use Rattle.rules.specs.Board.{memory_of}
use Rattle.facts.specs.Steady.{Slower, counts_in, case_of, Fit, Worse}
use Rattle.rules.specs.Response.{F}
use Rattle.rules.specs.Judgement.{lowest}
use Rattle.rules.specs.Others.{others, round_limit}
use Rattle.rules.specs.Order.{worsens}
use Rattle.rules.specs.Chain.{is_accepted}
use Rattle.rules.specs.Refusals.{check_table}
use Rattle.facts.specs.Sound.{SoundTask}
use Rattle.facts.specs.Worsened.{Worsened}
use Rattle.facts.proofs.Accepted.{sound}
use Rattle.facts.proofs.SoundTasks.{sound-higher, sound-elsewhere}
use Rattle.laws.specs.Idioms.{sum_over}
use Rattle.laws.proofs.Paired.{paired_map}
use Rattle.facts.proofs.Kept.{Kept, kept_no_more, kept, kept-higher}
use Rattle.facts.proofs.Cases.{case_equation}
use Rattle.facts.proofs.Boards.{memory-steady, memory-slower}
use Rattle.facts.proofs.Worsened.{worsened}

module _ (t : Table) (accepted : is_accepted (check_table t) ≡ true) (k : ℕ) (low : 1 ≤ k) (high : k ≤ t.tasks) where
  own-sound : SoundTask t.cores (task_of t k)
  own-sound = (sound t accepted).task-sound k low high

  period-some : (j : Task) → Memᴰ j (others t k) → 1 ≤ T j
  period-some j m = go (Memᴰ.append_cases (higher t k) m)
    where
      go : Memᴰ j (higher t k) ⊎ Memᴰ j (elsewhere t (core_of t k)) → 1 ≤ T j
      go (inl m) = omega (arith, (sound-higher t (sound t accepted) k high m).T_in.low)
      go (inr m) = omega (arith, (sound-elsewhere t (sound t accepted) (core_of t k) m).T_in.low)

  pub case_fit : Fit (case_of t k)
  case_fit = record {
    steady = memory-steady t (sound t accepted) (core_of t k);
    exec = own-sound.C_in.low;
    periods = period-some;
  }

  pub equation_of_lem : Equation (F t k) (lowest t k)
  unfolding F lowest
  equation_of_lem = case_equation (case_of t k) case_fit

  pub lowest-fits : lowest t k ≤ latest (task_of t k)
  unfolding lowest latest
  lowest-fits = own-sound.C_in.high

-- the limit on the rounds, as RULES 6.7 has it
renewals_of : (d : ℕ) (js : List Task) → renewals d (map releases js) ≡ sum_over js (λ j. releases j d - 1)
unfolding renewals
renewals_of d [] = refl
renewals_of d (j ∷ js) = omega (arith, renewals_of d js)

pub limit_of : (t : Table) (k : ℕ) → most-rounds (latest (task_of t k)) (counts_in (case_of t k)) ≡ round_limit t k
limit_of t k = omega (arith, renewals_of (latest (task_of t k)) (others t k))

-- a newer table that is the older one worsened
module _ (older newer : Table) (was : is_accepted (check_table older) ≡ true) (is : is_accepted (check_table newer) ≡ true)
    (worse : worsens older newer ≡ true) (k : ℕ) (low : 1 ≤ k) (high : k ≤ older.tasks) where
  facts : Worsened older newer
  facts = worsened older newer worse

  own-kept : Kept older.cores (task_of older k) (task_of newer k)
  own-kept = kept older newer (sound older was) (sound newer is) facts k low high

  own-slower : Slower (memory_of older (core_of older k)) (memory_of newer (core_of newer k))
  own-slower =
      let core = own-kept.was.core_in in
      rw (← own-kept.raised.core)
      (memory-slower older newer (sound older was) (sound newer is) facts (core_of older k) core.low core.high)

  pub case_worse : Worse (case_of older k) (case_of newer k)
  unfolding latest
  case_worse = record {
    memory = own-slower;
    own = λ x. kept_no_more x (task_of older k) (task_of newer k) own-kept;
    others = λ x. paired_map (kept_no_more x) (kept-higher older newer (sound older was) (sound newer is) facts k low high);
    latest = own-kept.raised.deadline;
  }

  pub number-stays : k ≤ newer.tasks
  number-stays = omega (arith, facts.board.tasks)
