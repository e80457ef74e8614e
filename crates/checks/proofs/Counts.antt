-- What refusal 5 leaves to those after it: counts within their limits. Assumes nothing.
use Prim.Native.Nat.{ℕ, ◌≤◌}
use mathlib.Core.Path.{◌≡◌}
use mathlib.Core.Bool.{true, false, ◌&&◌}
use lib.Dec.{ltb}
use borrow.Author.Tests.{not-false}
use Rattle.laws.specs.Idioms.{within}
use Rattle.laws.proofs.Tests.{and_both, inside}
use Rattle.rules.specs.Kinds.{fourth_allowed}
use Rattle.rules.specs.Refusals.{counts_fault}

module _ (cores partitions tasks fourth : ℕ) where
  counts-hold : counts_fault cores partitions tasks fourth ≡ false → within 1 8 cores && within 1 16 partitions && within 1 32 tasks && ltb fourth 4 ≡ true
  unfolding counts_fault fourth_allowed
  counts-hold e = not-false _ e

  pub counts-inside : counts_fault cores partitions tasks fourth ≡ false → (cores ≤ 8) × (partitions ≤ 16)
  counts-inside e =
      let (rest, _) = and_both _ _ (counts-hold e) in
      let (front, _) = and_both _ _ rest in
      let (few, some) = and_both _ _ front in
      ((inside _ _ _ few).high, (inside _ _ _ some).high)
