-- A newer table after an older one: what code answers, and what the operation promises. Assumes nothing.
use Rattle.std.specs.Prelude.{◌≡◌, cond, Result, Ok, Err, IfOk}
use Rattle.rules.specs.declared.Table.{Table}
use Rattle.rules.specs.declared.Refusal.{Refusal}
use Rattle.rules.specs.declared.Faulty.{Faulty}
use Rattle.rules.specs.declared.CarryRefusal.{CarryRefusal}
use Rattle.rules.specs.declared.Rejudgement.{Rejudgement}
use Rattle.rules.specs.Results.{Rejudged}
use Rattle.rules.specs.Operations.{answers_from, fresh, rejudging, verdicts}
use Rattle.rules.specs.Chain.{is_accepted}

-- what code answers of one of the two
unfoldable pub about : {A : Type 0} → Faulty → Result A Refusal → Result A CarryRefusal
about which (Ok x) = Ok x
about which (Err r) = Err (record { refusal = r; faulty = which })

-- and of both: the refusal and whose it is, or where nothing is refused whether it is carried, and the answers
unfoldable pub rejudged : Rejudged → Result Rejudgement CarryRefusal
rejudged r = cond (is_accepted r.refusal) (Ok (record { carried = r.carried; answers = r.answers })) (Err (record { refusal = r.refusal; faulty = r.faulty }))

-- The result is the rules'; and where nothing is refused its verdicts are those of a fresh judgement of the newer table, carried or not.
pub record Carried (older newer : Table) (r : Result Rejudgement CarryRefusal) : Type 0 where
  pub is : r ≡ rejudged (rejudging older newer)
  pub as_fresh : IfOk r (λ x. verdicts x.answers ≡ verdicts (answers_from newer fresh))
