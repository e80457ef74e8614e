-- A run of figures, place by place. Assumes nothing.
use mathlib.Core.Path.{◌≡◌}
use native.Mathlib.Numerals.{unary_clauses}
use native.Mathlib.Omega.{arith}
use Rattle.laws.specs.Idioms.{from}
use Rattle.fields.proofs.Steps.{figure-next}
use Rattle.fields.proofs.figures.Goals as goal

pub loop-i-init : goal.loop-i-init
unfolding from
loop-i-init g c = simp unary_clauses

pub loop-i-preserved : goal.loop-i-preserved
loop-i-preserved g c =
    let l = c.loop-i in
    rw (l.invariant, c.le16.ensures) (figure-next c.args.file.now c.args.at g.row.N l.i (omega (arith, c.requires.room)))

pub returns : goal.returns
returns g c = let e : c.loop-i.i ≡ c.args.n = omega arith in rw e at c.loop-i.invariant
