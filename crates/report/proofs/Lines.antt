-- What is reported of a salvage is its report, and its line as code puts it together. Assumes nothing.
use mathlib.Core.Path.{◌≡◌, refl}
use mathlib.Core.Bool.{Bool, true, false}
use mathlib.Core.List.{[], ◌∷◌, ◌++◌, append_assoc}
use Rattle.laws.specs.Idioms.{text}
use Rattle.laws.specs.Decimal.{decimal}
use Rattle.rules.specs.declared.Salvage.{Salvage}
use Rattle.rules.specs.Chain.{is_accepted, granted}
use Rattle.rules.specs.Results.{Salvaged, counts_of}
use Rattle.rules.specs.Listing.{report}
use Rattle.facts.proofs.Chain.{allowed, denied}
use Rattle.report.specs.Counts.{counts_line, reported}

pub reported_is : (r : Salvaged) → reported (granted r.refusal (counts_of r)) ≡ report r
unfolding report counts_line
reported_is r = go (is_accepted r.refusal) refl
  where
    go : (b : Bool) → is_accepted r.refusal ≡ b → reported (granted r.refusal (counts_of r)) ≡ report r
    go true e = rw (allowed r.refusal (counts_of r) e, e)
    go false e = rw (denied r.refusal (counts_of r) e, e)

pub counts-line : (r : Salvage) → counts_line r
    ≡ (text "promised " ++ (decimal r.promised ++ 32 ∷ []))
    ++ (text "kept " ++ (decimal r.kept ++ 32 ∷ []))
    ++ (text "stopped " ++ (decimal r.stopped ++ 10 ∷ []))
unfolding counts_line
counts-line r = simp append_assoc
