-- Prices as numbers: what one request of a core costs it, and what one request of each core costs one of its jobs. Assumes nothing.
use Rattle.std.specs.Prelude.{◌≡◌, ℕ, List, map, replicate}
use Rattle.rules.specs.declared.Table.{Table}
use Rattle.laws.specs.Idioms.{Within, up_to, filled}
use Rattle.rules.specs.Units.{ps}
use Rattle.facts.specs.Prices.{Prices, prices_of}
use Rattle.prices.specs.declared.CoreCosts.{CoreCosts}
use Rattle.prices.specs.declared.Priced.{Priced}

-- of one of n cores
abbrev pub costs_at : ℕ → Prices → CoreCosts
costs_at n prices = record {
  request = ps prices.per_request;
  weight = filled 8 (ps 0) (map (λ q. ps (prices.per_core q)) (up_to n));
}

abbrev pub no_costs : CoreCosts
no_costs = record { request = ps 0; weight = replicate 8 (ps 0) }

-- of each of n cores
abbrev pub each_costs : ℕ → (ℕ → Prices) → List CoreCosts
each_costs n prices = filled 8 no_costs (map (λ p. costs_at n (prices p)) (up_to n))

-- for each of n cores what is given there, if each is given one thing
abbrev pub EachBy : ℕ → (ℕ → CoreCosts → Type 0) → List CoreCosts → Type 0
EachBy n gives all =
    (of : ℕ → CoreCosts) → ((p : ℕ) (r : CoreCosts) → Within 1 n p → gives p r → r ≡ of p) → all ≡ filled 8 no_costs (map of (up_to n))

-- of a table's cores, whatever its kind
unfoldable pub costs_of : Table → ℕ → CoreCosts
costs_of t p = costs_at t.cores (prices_of t p)

unfoldable pub all_costs : Table → List CoreCosts
all_costs t = each_costs t.cores (prices_of t)

-- how many tasks and cores there are, and what the cores cost each other
abbrev pub priced_of : Table → Priced
priced_of t = record { tasks = t.tasks; cores = t.cores; costs = all_costs t }
