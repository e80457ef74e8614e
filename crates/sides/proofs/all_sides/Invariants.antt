-- `all_sides` fills a place a core, in both arrays. Assumes nothing.
use Rattle.std.proofs.Common.{◌≡◌, true, false, map}
use Rattle.sides.specs.Masks.{mask, on_side}
use Rattle.laws.specs.Idioms.{up_to, filled}
use Rattle.sides.proofs.all_sides.Given as goal

abbrev pub invariant-loop-p : goal.invariant-loop-p
invariant-loop-p l =
    (l.near ≡ filled 8 0 (map (λ q. mask (on_side true l.sets q) l.cores) (up_to l.p)))
    × (l.far ≡ filled 8 0 (map (λ q. mask (on_side false l.sets q) l.cores) (up_to l.p)))
