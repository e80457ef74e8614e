-- The records before the first that is not sound. Assumes nothing.
use mathlib.Core.Path.{◌≡◌, sym, ◌∙◌}
use native.Mathlib.Omega.{arith}
use Rattle.rules.specs.Salvage.{kept}
use Rattle.fields.proofs.Steps.{header-there}
use Rattle.kept.proofs.Leading.{counted_none, counted_next, counted_stop, counted-all}
use Rattle.kept.proofs.count.Goals as goal

pub of-promised-requires : goal.of-promised-requires
of-promised-requires c = omega (arith, header-there c.args.file.now c.requires)

pub loop-i-init : goal.loop-i-init
loop-i-init c = counted_none _ _

pub is_sound-requires : goal.is_sound-requires
is_sound-requires c = record { i_bound = omega (arith, c.from.ensures); file_in_bounds = c.requires }

pub returns-then-not-is_sound : goal.returns-then-not-is_sound
unfolding kept
returns-then-not-is_sound c =
    rw c.of-promised.ensures at (counted_stop _ _ _ c.loop-i.invariant (omega arith) (rw c.from.ensures at (sym c.if-not-is_sound.ensures)))

pub loop-i-preserved : goal.loop-i-preserved
loop-i-preserved c = counted_next _ _ _ c.loop-i.invariant (omega arith) (rw c.from.ensures at (sym c.if-not-is_sound.ensures))

pub returns : goal.returns
unfolding kept
returns c =
    let all : c.loop-i.i ≡ c.of-promised.result.tasks = omega arith in
    sym all ∙ rw c.of-promised.ensures at (counted-all _ _ _ c.loop-i.invariant all)
