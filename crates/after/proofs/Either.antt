-- The answers of a newer table after an older one, either way. Assumes nothing.
use mathlib.Core.Path.{◌≡◌, refl}
use mathlib.Core.Bool.{Bool, true, false}
use Prim.Native.Nat.{ℕ}
use lib.ListN.{length}
use Rattle.rules.specs.declared.Table.{Table}
use Rattle.rules.specs.Chain.{is_accepted}
use Rattle.rules.specs.Refusals.{check_judged}
use Rattle.rules.specs.Order.{worsens}
use Rattle.rules.specs.Operations.{answers_from, fresh, older_bound, check_both, rejudging}
use Rattle.facts.proofs.Starts.{judged-accepted}
use Rattle.facts.proofs.AllStarts.{answers-long}

module _ (older newer : Table) (was : is_accepted (check_judged older) ≡ true) (is : is_accepted (check_judged newer) ≡ true) where
  pub answers-carried : worsens older newer ≡ true → answers_from newer (older_bound older) ≡ (rejudging older newer).answers
  unfolding rejudging check_both
  answers-carried h = simp (was, is, h)

  pub answers-fresh : worsens older newer ≡ false → answers_from newer fresh ≡ (rejudging older newer).answers
  unfolding rejudging check_both
  answers-fresh h = simp (was, is, h)

  -- as many as there are places
  pub answers_long : length (rejudging older newer).answers ≡ 32
  answers_long = go (worsens older newer) refl
    where
      long : (start : ℕ → ℕ) → length (answers_from newer start) ≡ 32
      long = answers-long newer (judged-accepted newer is)

      go : (b : Bool) → worsens older newer ≡ b → length (rejudging older newer).answers ≡ 32
      go true e = rw (← answers-carried e) (long (older_bound older))
      go false e = rw (← answers-fresh e) (long fresh)
