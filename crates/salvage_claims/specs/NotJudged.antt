-- No salvaged table is ever judged (RULES 7.8): one statement over all operations that judge. Assumes nothing.
use Rattle.std.specs.Prelude.{ℕ, ◌≡◌, true, false, List}
use Rattle.rules.specs.declared.Table.{Table}
use Rattle.rules.specs.declared.Answer.{Answer}
use Rattle.rules.specs.declared.Faulty.TheVariants.{Older, Newer}
use Rattle.rules.specs.Kinds.{is_salvaged}
use Rattle.rules.specs.Judgement.{misses}
use Rattle.rules.specs.Chain.{refused, is_accepted}
use Rattle.rules.specs.Refusals.{check_judged}
use Rattle.rules.specs.Operations.{reading, no_answers, judge_one, judge_all, rejudging}
use Rattle.rules.specs.Listing.{refused_line, table_text, listing}
use Rattle.file_claims.specs.Files.{AcceptedTable, AcceptedFile}
use Rattle.claims.specs.Point2.{MayBeJudged}

-- each is refused by 18, and answers nothing: one task, all, a newer table after this one, this one after an older, and the listing
pub record NotJudged (t : Table) : Type 0 where
  pub one : (k start : ℕ) → judge_one t k start ≡ record { refusal = refused 18 0; answer = misses 0 }
  pub all : (starts : List ℕ) → judge_all t starts ≡ record { refusal = refused 18 0; answers = no_answers }
  pub as_older : (newer : Table) → rejudging t newer ≡ record { refusal = refused 18 0; faulty = Older; carried = false; answers = no_answers }
  pub as_newer : (older : Table) → MayBeJudged older
      → rejudging older t ≡ record { refusal = refused 18 0; faulty = Newer; carried = false; answers = no_answers }
  pub listed : (answers : List Answer) → table_text t answers ≡ refused_line 18

pub record NoneJudged : Type 0 where
  -- what is accepted and salvaged, as a table and as a file
  pub tables : (t : Table) → AcceptedTable t → is_salvaged t ≡ true → NotJudged t
  pub files : (s : List ℕ) → AcceptedFile s → is_salvaged (reading s).table ≡ true → listing s ≡ refused_line 18
  -- and what is salvaged and not accepted is not judged either: the checks before every judgement let no salvaged table pass
  pub whatever : (t : Table) → is_salvaged t ≡ true → is_accepted (check_judged t) ≡ false
