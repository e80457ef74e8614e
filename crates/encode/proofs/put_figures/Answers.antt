-- A run of figures, stored place by place. Assumes nothing.
use native.Mathlib.Omega.{arith}
use borrow.Author.Rules.{rules}
use Rattle.laws.specs.Idioms.{bytes_of}
use Rattle.laws.proofs.Bytes.{bytes-length}
use Rattle.laws.proofs.Runs.{store_next}
use Rattle.encode.proofs.put_figures.Goals as goal

pub loop-i-preserved : goal.loop-i-preserved
loop-i-preserved c =
    let l = c.loop-i in
    let a = c.args in
    (search rules, rw (c.put.ensures, c.from.ensures, l.invariant.1) (store_next (bytes_of 2) 2 (bytes-length 2) a.out.now a.at a.figures.now l.i 0 (omega arith)))
