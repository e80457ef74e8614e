-- Nothing is at fault exactly where the newer table is the older one worsened. It follows from the rules (proofs/Told.antt). Assumes nothing.
use Rattle.std.specs.Prelude.{◌≡◌}
use Rattle.rules.specs.declared.Table.{Table}
use Rattle.std.specs.Option.{is_none}
use Rattle.rules.specs.Order.{worsens}
use Rattle.changes.specs.Difference.{difference}

abbrev pub Agrees : Type 0
Agrees = (older newer : Table) → is_none (difference older newer) ≡ worsens older newer
