-- A task's own figures from lent columns. Places are counted from 0. Assumes nothing.
use Rattle.std.specs.Prelude.{ℕ, ◌-◌, replicate, get_or}
use Rattle.laws.specs.Idioms.{entry}
use Rattle.rules.specs.declared.Picos.{Picos}
use Rattle.prices.specs.declared.CoreCosts.{CoreCosts}
use Rattle.prices.specs.Costs.{no_costs}
use Rattle.counts.specs.Counts.{no_tasks}
use Rattle.floors.specs.declared.Others.{Others}
use Rattle.floors.specs.Floors.{twice_on, others_with}
use Rattle.terms.specs.declared.Own.{Own}
use Rattle.own.specs.declared.Lent.{Lent}

-- columns of no tasks
abbrev pub no_lent : Lent
no_lent = record {
  board = record { tasks = 0; cores = 0; costs = replicate 8 no_costs };
  core = replicate 32 0;
  latest = replicate 32 0;
  tasks = no_tasks;
}

abbrev pub own_with : ℕ → ℕ → ℕ → Picos → Others → ℕ → ℕ → Own
own_with exec requests latest delay others first place =
    record { exec = exec; requests = requests; latest = latest; delay = delay; others = others; first = first; place = place }

-- what the core of the task in place i costs
abbrev pub cost_at : Lent → ℕ → CoreCosts
cost_at l i = entry no_costs l.board.costs (get_or l.core i 0)

-- the task in place i, which stands at `place`
abbrev pub own_of : Lent → ℕ → ℕ → Own
own_of l i place =
    own_with (get_or l.tasks.execs place 0) (get_or l.tasks.requests place 0) (get_or l.latest i 0) (cost_at l i).request
    (others_with l.board.cores (cost_at l i).weight (twice_on l.tasks.begins l.tasks.requests)) (get_or l.tasks.begins (get_or l.core i 0 - 1) 0) place
