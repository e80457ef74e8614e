-- A record's five figures. Assumes nothing.
use Rattle.records.proofs.Record.{record_stores}
use Rattle.records.proofs.put_task.Goals as goal

pub returns : goal.returns
returns c =
    let a = c.args in
    rw (c.put-5.ensures, c.put-4.ensures, c.put-3.ensures, c.put-2.ensures, c.put.ensures)
    (record_stores a.form a.task a.out.now a.at)
