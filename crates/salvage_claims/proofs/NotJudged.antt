-- No salvaged table is judged: the checks before every judgement end with refusal 18. Assumes nothing.
use mathlib.Core.Path.{◌≡◌, sym, ◌∙◌}
use mathlib.Core.Bool.{true}
use mathlib.Core.List.{List}
use Prim.Native.Nat.{ℕ}
use Rattle.laws.proofs.Tests.{clash, fails}
use Rattle.rules.specs.declared.Table.{Table}
use Rattle.rules.specs.Kinds.{says_salvaged, is_salvaged}
use Rattle.rules.specs.Chain.{refused, is_accepted}
use Rattle.rules.specs.Refusals.{check_judged, check_start, check_one, check_all}
use Rattle.rules.specs.File.{form_in, decode}
use Rattle.rules.specs.Operations.{reading, check_file, check_to_judge, read_to_judge, judge_one, judge_all, check_both, faulty_of, is_carried, rejudging}
use Rattle.rules.specs.Listing.{refused_line, table_text, listing}
use Rattle.facts.proofs.Reading.{refusal_read, read_table}
use Rattle.file_claims.specs.Files.{AcceptedTable, AcceptedFile}
use Rattle.file_claims.proofs.NoRefusal.{table-plain}
use Rattle.claims.proofs.Point2.{may, may-back}
use Rattle.salvage_claims.specs.NotJudged.{NotJudged, NoneJudged}

module _ (t : Table) (salvaged : is_salvaged t ≡ true) where
  not_judged_lem : is_accepted (check_judged t) ≡ true → ⊥
  not_judged_lem passed = clash (sym salvaged ∙ (may-back t passed).not_salvaged)

  module _ (table-passed : AcceptedTable t) where
    last-check : check_judged t ≡ refused 18 0
    unfolding check_judged
    last-check = rw (table-plain t table-passed, salvaged)

    none-judge_it : NotJudged t
    unfolding judge_one check_one check_start judge_all check_all rejudging check_both faulty_of is_carried table_text
    none-judge_it = record {
      one = λ k start. rw last-check;
      all = λ starts. rw last-check;
      as_older = λ newer. rw last-check;
      as_newer = λ older judged. rw (may older judged, last-check);
      listed = λ answers. rw last-check;
    }

module _ (s : List ℕ) (ok : AcceptedFile s) (salvaged : is_salvaged (reading s).table ≡ true) where
  file_passed : is_accepted (check_file s) ≡ true
  file_passed = rw (refusal_read s) at ok

  form-says : says_salvaged (form_in s) ≡ true
  unfolding decode
  form-says = rw (read_table s file_passed) at salvaged

  last_file_check : check_to_judge s ≡ refused 18 0
  unfolding check_to_judge
  last_file_check = rw (file_passed, form-says)

  refused-listing : listing s ≡ refused_line 18
  unfolding listing read_to_judge
  refused-listing = rw last_file_check

pub none-judged : NoneJudged
none-judged = record {
  tables = λ t passed salvaged. none-judge_it t salvaged passed;
  files = refused-listing;
  whatever = λ t salvaged. fails _ (not_judged_lem t salvaged);
}
