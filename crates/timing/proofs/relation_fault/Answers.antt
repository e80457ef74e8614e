-- The comparisons are the relations, in their order. Assumes nothing.
use mathlib.Core.Path.{◌≡◌}
use borrow.Author.Rules.{rules}
use Rattle.timing.proofs.Relations.{relation_1, relation_2, relation_3, relation_4, relation_5}
use Rattle.timing.proofs.relation_fault.Goals as goal

pub returns-in-1 : goal.returns-in-1
returns-in-1 c = rw (c.in-1.is, c.figure-in-1.ensures.0, c.figure.ensures.0) (relation_1 _)

pub returns-in-2 : goal.returns-in-2
returns-in-2 c = rw (c.in-2.is, c.figure-in-2.ensures.0, c.turn.ensures.0) (relation_2 _)

pub returns-in-3 : goal.returns-in-3
returns-in-3 c = rw (c.in-3.is, c.figure-in-3-3.ensures.0, c.figure-in-3-2.ensures.0, c.figure-in-3.ensures.0) (relation_3 _)

pub returns-in-4 : goal.returns-in-4
returns-in-4 c = rw (c.in-4.is, c.figure-in-4-2.ensures.0, c.hit.ensures.0, c.figure-in-4.ensures.0) (relation_4 _)

pub returns-in_default : goal.returns-in_default
returns-in_default c =
    let five : c.args.k ≡ 5 = search rules in
    rw (five, c.remainder.ensures, c.figure-in_default-2.ensures.0, c.figure-in_default.ensures.0) (relation_5 _)
