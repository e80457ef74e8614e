-- The costs of either kind are the table's. Assumes nothing.
use mathlib.Core.Path.{◌≡◌, sym, ap, fun_ext, ◌∙◌}
use mathlib.Core.Bool.{true, false}
use Prim.Native.Nat.{ℕ}
use Rattle.rules.specs.declared.Table.{Table}
use Rattle.rules.specs.Kinds.{is_bus, says_bus}
use Rattle.facts.specs.Prices.{Prices, dram_prices, bus_prices, prices_of}
use Rattle.prices.specs.Costs.{each_costs, costs_of, all_costs}
use Rattle.board.proofs.all_costs.Goals as goal

-- the same prices for each core, the same costs
same-prices : (t : Table) (prices : ℕ → Prices) → ((p : ℕ) → prices p ≡ prices_of t p) → each_costs t.cores prices ≡ all_costs t
unfolding all_costs costs_of
same-prices t prices same = ap (each_costs t.cores) (fun_ext same)

module _ (t : Table) where
  of-bus : is_bus t ≡ true → each_costs t.cores (bus_prices t) ≡ all_costs t
  unfolding prices_of
  of-bus e = same-prices t (bus_prices t) (λ p. rw e)

  of-dram : is_bus t ≡ false → each_costs t.cores (dram_prices t) ≡ all_costs t
  unfolding prices_of
  of-dram e = same-prices t (dram_prices t) (λ p. rw e)

pub returns-then-says_bus : goal.returns-then-says_bus
returns-then-says_bus c t fourth cores sets row =
    c.all_costs.ensures t cores row ∙ of-bus t (ap says_bus fourth ∙ sym c.says_bus.ensures ∙ c.if-says_bus.true)

pub returns : goal.returns
returns c t fourth cores sets row =
    c.all_costs-2.ensures t cores sets row ∙ of-dram t (ap says_bus fourth ∙ sym c.says_bus.ensures ∙ c.if-says_bus.false)
