-- `line` meets its contract. Assumes nothing.
use mathlib.Core.Path.{sym}
use native.Mathlib.Omega.{arith}
use lib.Seq.{length-take-le}
use Rattle.text.proofs.Put.{front_length, front}
use Rattle.report.proofs.Lines.{reported_is}
use Rattle.report.proofs.line.Goals as goal

pub slice_bounds-give-end : goal.slice_bounds-give-end
slice_bounds-give-end c = sym (length-take-le _ _ (omega arith))

pub returns-in-Ok : goal.returns-in-Ok
returns-in-Ok c = let put = c.put_counts-n.ensures in
    record {
      given = rw (c.in-Ok.is, ← front put.put (omega arith)) c.give.ensures;
      r_len_bound = rw c.in-Ok.is (omega (arith, front_length put.put));
      report = λ r is. rw is (reported_is r);
    }

pub returns-in-Err : goal.returns-in-Err
returns-in-Err c = let line = c.refused.ensures in
    record { given = rw c.in-Err.is line.given; r_len_bound = rw c.in-Err.is (omega (arith, line.number_len_bound)); report = λ r is. rw is (reported_is r) }
