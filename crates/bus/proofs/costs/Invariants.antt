-- A price for each core. Assumes nothing.
use Rattle.std.proofs.Common.{◌≡◌, map}
use Rattle.laws.specs.Idioms.{up_to, filled}
use Rattle.rules.specs.declared.Table.{Table}
use Rattle.rules.specs.Units.{ps}
use Rattle.rules.specs.Bus.{slot_in}
use Rattle.facts.specs.Prices.{if_other}
use Rattle.bus.proofs.costs.Given as goal

abbrev pub invariant-loop-q : goal.invariant-loop-q
invariant-loop-q l = (t : Table) → slot_in t.timing ≡ l.s → l.weight ≡ filled 8 (ps 0) (map (λ r. ps (if_other t l.p r)) (up_to l.q))
