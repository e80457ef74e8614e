-- `spell` meets its contract. The invariant: what is left of the number, spelled before the digits that stand, is the whole number spelled, and there is room
-- for it. Assumes nothing.
use mathlib.Core.Path.{◌∙◌, sym}
use native.Mathlib.Omega.{arith}
use borrow.Author.Rules.{rules}
use lib.ListN.{length-set}
use Rattle.digits.proofs.Decimal.{spell_none, spell_next, spell_last, place_before, digit_fewer}
use Rattle.digits.proofs.spell.Goals as goal

pub loop-m-preserved : goal.loop-m-preserved
loop-m-preserved c =
    let s = c.before in
    let d = s.loop-m.d in
    let m = s.loop-m.m in
    let i = s.loop-m.i in
    let low = place_before m i (omega arith) s.loop-m.invariant.2 in
    (search rules, simp length-set (omega arith), digit_fewer m i low s.loop-m.invariant.2, s.loop-m.invariant.3 ∙ spell_next d m i (omega arith) (omega arith) low)

pub returns : goal.returns
returns c =
    let s = c.before in
    record { inside = omega arith; digits = sym (s.loop-m.invariant.3 ∙ spell_last s.loop-m.d s.loop-m.m s.loop-m.i (omega arith) (omega arith)) }

pub loop-m-init : goal.loop-m-init
loop-m-init c = (search rules, c.requires, search rules, spell_none c.args.n c.args.d.now 19 c.requires)
