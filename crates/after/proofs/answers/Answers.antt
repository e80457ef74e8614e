-- The answers where no start is refused. Assumes nothing.
use mathlib.Core.Path.{refl, ◌∙◌}
use Rattle.facts.proofs.AllStarts.{allowed-answers}
use Rattle.columns.proofs.Given.{all_given}
use Rattle.after.proofs.answers.Goals as goal

pub unwrap-requires : goal.unwrap-requires
unwrap-requires c = rw (c.judge_tasks.ensures ∙ all_given _ c.requires.table_value _ c.requires.all_allowed) refl

pub returns : goal.returns
returns c =
    let are = allowed-answers c.args.table c.requires.table_value c.args.starts c.requires.all_allowed in
    cc (c.judge_tasks.ensures ∙ all_given _ c.requires.table_value _ c.requires.all_allowed)
