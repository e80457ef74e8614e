-- `list_table` meets its contract: a judgement from nothing is not refused. Assumes nothing.
use mathlib.Core.Path.{refl, ◌∙◌}
use Rattle.columns.proofs.Given.{fresh_given}
use Rattle.listing.proofs.TableLines.{fresh_answers}
use Rattle.listing.proofs.list_table.Goals as goal

pub unwrap-answers-requires : goal.unwrap-answers-requires
unwrap-answers-requires c = rw (c.judge_tasks.ensures ∙ fresh_given _ c.requires) refl

pub returns : goal.returns
returns c =
    let same = fresh_answers _ c.requires c.judge_tasks.ensures c.unwrap-answers.ensures in
    record { given = rw same at c.accepted_lines.ensures.given; replicate_len_bound = rw same at c.accepted_lines.ensures.answers_len_bound }
