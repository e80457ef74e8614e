-- Point 1's sentence on a file with one byte altered, as code has it: the bytes afterwards, and the refusal of those. Assumes nothing.
use mathlib.Core.Path.{◌≡◌, refl}
use mathlib.Core.Logic.{◌≢◌}
use mathlib.Core.Bool.{true}
use mathlib.Core.List.{List}
use Prim.Native.Nat.{ℕ, ◌<◌}
use lib.ListN.{length, get_or, set}
use Rattle.std.specs.Prelude.{Result, IsErr}
use Rattle.laws.proofs.ByteLists.{bytes_by_place}
use Rattle.rules.specs.declared.Refusal.{Refusal}
use Rattle.rules.specs.Chain.{is_accepted, granted}
use Rattle.facts.proofs.Chain.{denied}
use Rattle.file_claims.specs.Files.{Check, Damage}

module _ {A : Type 0} (x : A) {check : Check} (damage : Damage check) (s : List ℕ) (i b : ℕ) where
  pub refused-then : ((k : ℕ) → get_or s k 0 < 256) → b < 256 → {after : List ℕ} {r : Result A Refusal} → after ≡ set s i b → r ≡ granted (check after) x
      → is_accepted (check s) ≡ true → i < length s → b ≢ get_or s i 0 → IsErr r
  refused-then bytes byte are is ok inside other =
      rw (is, are, denied (check (set s i b)) x (damage.one_byte s (bytes_by_place s bytes) ok i b inside byte other)) refl
