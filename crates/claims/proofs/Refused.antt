-- A refused operation gives nothing and changes no lent byte. Assumes nothing.
use mathlib.Core.Path.{◌≡◌, refl, ap}
use mathlib.Core.Bool.{Bool, true, false}
use Rattle.rules.specs.declared.Table.{Table}
use Rattle.rules.specs.Results.{Read}
use Rattle.rules.specs.Chain.{is_accepted}
use Rattle.rules.specs.Refusals.{check_judged}
use Rattle.rules.specs.Operations.{viewing, writing, out_after, judge_one, judge_all, check_both, faulty_of, is_carried, rejudging}
use Rattle.facts.proofs.Reading.{refusal_read, refused-read}
use Rattle.claims.specs.Refused.{is_neither, Refused}

-- the older table's refusal comes first
neither : (older newer : Table) (was is : Bool) → is_accepted (check_judged older) ≡ was → is_accepted (check_judged newer) ≡ is
    → is_neither (faulty_of older newer) ≡ is_accepted (check_both older newer)
unfolding faulty_of check_both
neither older newer false is e g = simp e
neither older newer true false e g = simp (e, g)
neither older newer true true e g = simp (e, g)

pub refused : Refused
unfolding viewing judge_one judge_all rejudging is_carried writing out_after
refused = record {
  read = λ s e. ap (λ (r : Read). r.table) (refused-read s (rw (refusal_read s) at e));
  view = λ s k e. rw e;
  one = λ t k start e. rw e;
  all = λ t starts e. rw e;
  again = λ older newer e. (rw e, rw e);
  faulty = λ older newer. neither older newer _ _ refl refl;
  written_length = λ t out e. rw e;
  lent_bytes = λ t out e. rw e;
}
