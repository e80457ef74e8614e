-- The lines of a table, as code puts them together. Assumes nothing.
use mathlib.Core.Path.{◌≡◌, refl, sym, ◌∙◌}
use mathlib.Core.Bool.{true}
use mathlib.Core.List.{List, ◌++◌}
use Rattle.rules.specs.declared.Table.{Table}
use Rattle.rules.specs.declared.Answer.{Answer}
use Rattle.rules.specs.declared.Refusal.{Refusal}
use Rattle.rules.specs.Chain.{is_accepted, granted}
use Rattle.rules.specs.Refusals.{check_judged}
use Rattle.rules.specs.Operations.{judge_all, fresh_starts}
use Rattle.rules.specs.Listing.{table_lines, table_text, refused_line}
use Rattle.laws.specs.Idioms.{text}
use Rattle.std.specs.Prelude.{Result, Ok, Err}
use Rattle.facts.proofs.Chain.{was-allowed, was-denied}
use Rattle.columns.proofs.Given.{fresh_given}
use Rattle.rows.specs.Rows.{rows}
use Rattle.misses.specs.Last.{last}

pub table-lines : (t : Table) (answers : List Answer)
    → table_lines t answers ≡ text "task core verdict bound by rounds\n" ++ rows t answers t.tasks ++ last answers t.tasks
unfolding table_lines rows last
table-lines t answers = refl

-- what is listed for a table, by what its check gave
module _ {A : Type 0} (t : Table) (answers : List Answer) (x : A) where
  pub text-refused : {r : Refusal} → Err r ≡ granted (check_judged t) x → table_text t answers ≡ refused_line r.number
  unfolding table_text
  text-refused e = let w = was-denied _ _ (sym e) in rw (w.0, w.1)

  pub text-whole : {y : A} → Ok y ≡ granted (check_judged t) x → table_text t answers ≡ table_lines t answers
  unfolding table_text
  text-whole e = rw (was-allowed _ _ (sym e)).0

-- a judgement from nothing is not refused
pub fresh_answers : (t : Table) → is_accepted (check_judged t) ≡ true → {r : Result (List Answer) Refusal}
    → r ≡ granted (judge_all t fresh_starts).refusal (judge_all t fresh_starts).answers → {given : List Answer} → r ≡ Ok given → given ≡ (judge_all t fresh_starts).answers
fresh_answers t passed e is = let so = sym is ∙ e ∙ fresh_given t passed in cc
