-- Two jobs of each task, place by place. Assumes nothing.
use Rattle.std.proofs.Common.{◌≡◌, ◌+◌, ◌-◌, take, drop, get_or, get_or-take, get_or-drop, ◌∙◌, add-zero, rules, arith}
use Rattle.counts.specs.Counts.{twice_of}
use Rattle.counts.proofs.Sums.{summed-none, summed-next}
use Rattle.floors.proofs.twice.Goals as goal

pub loop-n-init : goal.loop-n-init
loop-n-init c = rw add-zero summed-none

pub loop-n-preserved : goal.loop-n-preserved
unfolding twice_of
loop-n-preserved c =
    let l = c.loop-n in
    let a = c.args.a in
    let xs = c.args.requests.now in
    let here : get_or (take (c.args.e - a) (drop a xs)) l.n-index 0 ≡ get_or xs (a + l.n-index) 0 =
    get_or-take (c.args.e - a) (drop a xs) l.n-index 0 (search rules) ∙ get_or-drop a xs l.n-index 0 in
    let low = c.requires.cost (a + l.n-index) (search rules) (search rules) in
    let on : a + (l.n-index + 1) ≡ a + l.n-index + 1 = omega arith in
    rw (on, here) (summed-next (search rules) l.invariant (search rules) (search rules))
