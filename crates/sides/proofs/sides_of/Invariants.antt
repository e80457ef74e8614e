-- `sides_of` gathers the bits from the last core down. Assumes nothing.
use Rattle.std.proofs.Common.{◌≡◌, true, false, ◌+◌, ◌-◌}
use Rattle.sides.specs.Masks.{mask_from, on_side}
use Rattle.sides.proofs.sides_of.Given as goal

abbrev pub invariant-loop-q : goal.invariant-loop-q
invariant-loop-q l =
    (l.near ≡ mask_from (on_side true l.sets l.p) (l.q + 1) (l.cores - l.q))
    × (l.far ≡ mask_from (on_side false l.sets l.p) (l.q + 1) (l.cores - l.q))
