-- `put_row` meets its contract: three texts one after the other. Assumes nothing.
use borrow.Author.Rules.{rules}
use Rattle.text.proofs.Put.{◌then◌}
use Rattle.rows.proofs.TaskLines.{task-line}
use Rattle.rows.proofs.put_row.Goals as goal

pub returns : goal.returns
returns c = let put = c.put_field-number.ensures.put then c.put_field-end.ensures.put then c.put_answer.ensures.put in
    record { put = rw task-line put; upper_bound = search rules }
