-- What the bits and figures that costs are computed from have to do with a table. Assumes nothing.
use Rattle.std.specs.Prelude.{ℕ, ◌≡◌, false, List}
use Rattle.rules.specs.declared.Table.{Table}
use Rattle.rules.specs.Cores.{is_near}
use Rattle.delays.specs.declared.Figures.{Figures}
use Rattle.delays.specs.Figures.{figures_of}
use Rattle.sides.specs.Masks.{mask, side_masks}

-- a table whose cores near p, whose cores far from each, and whose figures are these
pub record Shows (p near : ℕ) (far : List ℕ) (f : Figures) (t : Table) : Type 0 where
  pub near_is : near ≡ mask (is_near t p) t.cores
  pub far_are : far ≡ side_masks false t.cores t.sets
  pub figures_are : f ≡ figures_of t.timing
