-- The costs of each core are its prices. Assumes nothing.
use Rattle.std.proofs.Common.{◌≡◌, ◌-◌, get_or, sym, ap, ◌∙◌, rules, true}
use Rattle.laws.proofs.Places.{place_of}
use Rattle.delays.specs.Figures.{figures_of}
use Rattle.facts.specs.Prices.{dram_prices}
use Rattle.prices.specs.Costs.{costs_at}
use Rattle.sides.specs.Masks.{mask, on_side, side_masks}
use Rattle.weights.specs.Shows.{Shows}
use Rattle.dram.proofs.Bounds.{small}
use Rattle.dram.proofs.all_costs.Goals as goal

pub each_core-requires-clause-callable : goal.each_core-requires-clause-callable
each_core-requires-clause-callable c = λ p w.
    let bounded = small c.requires.1 c.figures_of-figures.ensures in
    search rules

pub returns : goal.returns
unfolding side_masks
returns c t e s row =
    let both = c.all_sides.ensures in
    let a = c.args in
    rw (← e) at (c.each_core.ensures (λ p. costs_at t.cores (dram_prices t p)) (λ p r w post.
    let near : get_or c.all_sides.new.near (p - 1) 0 ≡ mask (on_side true a.sets.now p) a.cores =
    rw both.near_after (place_of 0 (λ q. mask (on_side true a.sets.now q) a.cores) 8 a.cores p w.low w.high) in
    let shows : Shows p (get_or c.all_sides.new.near (p - 1) 0) c.all_sides.new.far c.figures_of-figures.result t =
    record { near_is = rw (e, s) near; far_are = rw (e, s) both.far_after; figures_are = c.figures_of-figures.ensures ∙ ap figures_of (sym row) } in
    search rules))
