-- The order of refusals of a newer table after an older one, link by link. Assumes nothing.
use mathlib.Core.Path.{◌≡◌, refl}
use mathlib.Core.Bool.{Bool, true, false, cond}
use mathlib.Core.List.{List}
use Rattle.std.specs.Prelude.{Result, Ok, Err, IfOk}
use Rattle.rules.specs.declared.Table.{Table}
use Rattle.rules.specs.declared.Answer.{Answer}
use Rattle.rules.specs.declared.Faulty.TheVariants.{Older, Newer}
use Rattle.rules.specs.declared.Rejudgement.{Rejudgement}
use Rattle.rules.specs.declared.CarryRefusal.{CarryRefusal}
use Rattle.rules.specs.Chain.{is_accepted}
use Rattle.rules.specs.Refusals.{check_judged}
use Rattle.rules.specs.Order.{worsens}
use Rattle.rules.specs.Operations.{answers_from, fresh, verdicts, check_both, faulty_of, is_carried, rejudging}
use Rattle.facts.proofs.Again.{rejudged_verdicts}
use Rattle.rejudge.specs.Carried.{rejudged, Carried}

module _ (older newer : Table) where
  fresh-verdicts : IfOk (rejudged (rejudging older newer)) (λ x. verdicts x.answers ≡ verdicts (answers_from newer fresh))
  unfolding rejudged rejudging
  fresh-verdicts = go (is_accepted (check_both older newer)) refl
    where
      go : (b : Bool) → is_accepted (check_both older newer) ≡ b
          → IfOk {E = CarryRefusal} (cond b (Ok (record { carried = is_carried older newer; answers = (rejudging older newer).answers })) (Err (record { refusal = check_both older newer; faulty = faulty_of older newer })))
          (λ (x : Rejudgement). verdicts x.answers ≡ verdicts (answers_from newer fresh))
      go true p = rejudged_verdicts older newer p
      go false p = tt

  pub carried_promise : {r : Result Rejudgement CarryRefusal} → r ≡ rejudged (rejudging older newer) → Carried older newer r
  carried_promise e = record { is = e; as_fresh = rw e fresh-verdicts }

  pub again_older : is_accepted (check_judged older) ≡ false → Err (record { refusal = check_judged older; faulty = Older }) ≡ rejudged (rejudging older newer)
  unfolding rejudged rejudging check_both faulty_of
  again_older h = simp h

  module _ (was : is_accepted (check_judged older) ≡ true) where
    pub again_newer : is_accepted (check_judged newer) ≡ false → Err (record { refusal = check_judged newer; faulty = Newer }) ≡ rejudged (rejudging older newer)
    unfolding rejudged rejudging check_both faulty_of
    again_newer h = simp (was, h)

    pub again-judged : is_accepted (check_judged newer) ≡ true → {answers : List Answer} → answers ≡ (rejudging older newer).answers
        → Ok (record { carried = worsens older newer; answers = answers }) ≡ rejudged (rejudging older newer)
    unfolding rejudged rejudging is_carried check_both
    again-judged is e = rw e (simp (was, is))
