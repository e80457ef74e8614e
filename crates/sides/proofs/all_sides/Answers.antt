-- `all_sides` fills a place a core, in both arrays. Assumes nothing.
use Rattle.std.proofs.Common.{◌≡◌, rules, arith}
use Rattle.laws.specs.Idioms.{from}
use Rattle.laws.proofs.Places.{place_next}
use Rattle.sides.specs.Masks.{side_masks}
use Rattle.sides.proofs.all_sides.Goals as goal

pub loop-p-init : goal.loop-p-init
unfolding from
loop-p-init c = c.requires.near_value

pub loop-p-preserved : goal.loop-p-preserved
loop-p-preserved c =
    let l = c.loop-p in
    let both = c.sides_of-both.ensures in
    (rw (l.invariant.0, both.near_value) (place_next 0 _ 8 l.p (search rules)), rw (l.invariant.1, both.far_value) (place_next 0 _ 8 l.p (search rules)))

pub returns : goal.returns
unfolding side_masks
returns c =
    let e : c.loop-p.p ≡ c.args.cores = omega arith in
    record { near_after = rw (c.loop-p.invariant.0, e); far_after = rw (c.loop-p.invariant.1, e) }
