-- DRAM as a kind of board. Assumes nothing.
use mathlib.Core.Path.{fun_ext}
use Rattle.rules.specs.Board.{dram_memory}
use Rattle.facts.specs.Prices.{dram_prices}
use Rattle.facts.specs.Lawful.{Lawful}
use Rattle.facts.proofs.Weights.{JD_by_core, weight_self}
use Rattle.facts.proofs.Alike.{same-RD, same-weight}

pub dram_lawful : Lawful dram_memory dram_prices
unfolding dram_memory dram_prices
dram_lawful = record {
  priced = λ t p. rw (fun_ext (JD_by_core t p));
  own_free = weight_self;
  same-request = same-RD;
  same-price = same-weight;
}
