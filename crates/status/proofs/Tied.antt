-- The statement of specs/Tied.antt holds. Assumes nothing.
use Rattle.status.specs.Tied.{Tied}
use Rattle.status.proofs.Listed.{tied_to_listing}
use Rattle.status.proofs.Bounds.{tied_to_bounds}

pub tied : Tied
tied = record { listed = tied_to_listing; bounded = tied_to_bounds }
