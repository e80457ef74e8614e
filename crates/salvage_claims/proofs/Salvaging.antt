-- What docs/CLAIMS.md says of salvaging holds; and a refused salvage gives nothing and changes no lent byte. Assumes nothing.
use mathlib.Core.Path.{◌≡◌}
use mathlib.Core.Bool.{false}
use mathlib.Core.List.{List}
use Prim.Native.Nat.{ℕ}
use Rattle.rules.specs.Chain.{is_accepted}
use Rattle.rules.specs.Salvage.{salvaging, salvaged_out}
use Rattle.salvage_claims.specs.NewFile.{Nothing, Salvaging}
use Rattle.salvage_claims.proofs.NewFile.{new-file}
use Rattle.salvage_claims.proofs.Counts.{counts}

nothing : (s out : List ℕ) → is_accepted (salvaging s out).refusal ≡ false → Nothing s out
unfolding salvaging salvaged_out
nothing s out e = record { length = rw e; promised = rw e; kept = rw e; stopped = rw e; lent_bytes = rw e }

pub salvaging-holds : Salvaging
salvaging-holds = record { new-file = new-file; counts = counts; refused = nothing }
