-- A task's own figures. Assumes nothing.
use mathlib.Core.Path.{◌≡◌, ◌∙◌}
use mathlib.Core.List.{List}
use Prim.Native.Nat.{ℕ, ◌-◌}
use lib.ListN.{get_or}
use Rattle.prices.specs.Costs.{no_costs}
use Rattle.floors.specs.declared.Others.{Others}
use Rattle.floors.specs.Floors.{others_with, Doubled}
use Rattle.floors.proofs.Weighed.{others_are}
use Rattle.own.specs.declared.Lent.{Lent}
use Rattle.own.specs.Own.{own_with, own_of}
use Rattle.own.proofs.own_of.Goals as goal

own_is : (l : Lent) (i place : ℕ) {doubled : List ℕ} {others : Others} → Doubled l.board.cores l.tasks.begins l.tasks.requests doubled
    → others ≡ others_with l.board.cores (get_or l.board.costs (get_or l.core i 0 - 1) no_costs).weight (λ q. get_or doubled q 0)
    → own_with (get_or l.tasks.execs place 0) (get_or l.tasks.requests place 0) (get_or l.latest i 0) (get_or l.board.costs (get_or l.core i 0 - 1) no_costs).request others
    (get_or l.tasks.begins (get_or l.core i 0 - 1) 0) place ≡ own_of l i place
own_is l i place so e = rw (e ∙ others_are _ _ so)

pub returns : goal.returns
returns c =
    rw c.cost_in-cost.ensures (own_is c.args.l.now c.args.i c.args.place c.requires.doubled.0 (rw c.cost_in-cost.ensures at c.with_floor.ensures))
