-- The counts of a table as bytes. Assumes nothing.
use Rattle.std.specs.Prelude.{ℕ, List, [], ◌∷◌}
use Rattle.rules.specs.declared.Table.{Table}

-- the first four bytes of a file: RULES 7.1
abbrev pub counts : Table → List ℕ
counts t = t.cores ∷ t.partitions ∷ t.tasks ∷ t.fourth ∷ []
