-- What the front of an input says of the whole input. Assumes nothing.
use Rattle.std.specs.Prelude.{◌≡◌, List, ℕ}
use Rattle.rules.specs.File.{check_whole}
use Rattle.rules.specs.Operations.{reading}
use Rattle.rules.specs.Listing.{listing}
use Rattle.rules.specs.Salvage.{salvaging, salvaged_out}

-- `r` stands for the input `s`: both come as whole, are read as the same, listed as the same and salvaged as the same
pub record StandsFor (s r : List ℕ) : Type 0 where
  pub whole : check_whole s ≡ check_whole r
  pub read : reading s ≡ reading r
  pub listed : listing s ≡ listing r
  pub salvaged : (out : List ℕ) → (salvaging s out ≡ salvaging r out) × (salvaged_out s out ≡ salvaged_out r out)
