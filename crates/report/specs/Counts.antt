-- The report of what code answers. Assumes nothing.
use Rattle.std.specs.Prelude.{ℕ, List, [], ◌∷◌, Result, Ok, Err}
use Rattle.laws.specs.Idioms.{text}
use Rattle.laws.specs.Decimal.{decimal}
use Rattle.rules.specs.declared.Refusal.{Refusal}
use Rattle.rules.specs.declared.Salvage.{Salvage}
use Rattle.rules.specs.Listing.{line, refused_line}

-- the line of the three counts
unfoldable pub counts_line : Salvage → List ℕ
counts_line r = line (text "promised" ∷ decimal r.promised ∷ text "kept" ∷ decimal r.kept ∷ text "stopped" ∷ decimal r.stopped ∷ [])

-- it, or the line of the refusal
abbrev pub reported : Result Salvage Refusal → List ℕ
reported (Ok r) = counts_line r
reported (Err r) = refused_line r.number
