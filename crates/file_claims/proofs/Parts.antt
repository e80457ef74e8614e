-- The two parts of reading give what specs/Parts.antt says. Assumes nothing.
use mathlib.Core.Path.{◌≡◌, refl, sym, ap, ◌∙◌}
use mathlib.Core.Bool.{Bool, true, false}
use mathlib.Core.Logic.{◌⊎◌, inl, inr}
use mathlib.Core.List.{List}
use Prim.Native.Nat.{ℕ, ◌≤◌, ◌<◌}
use native.Mathlib.Omega.{arith}
use borrow.Author.Tests.{eq-eqb}
use Rattle.rules.specs.declared.Refusal.{Refusal}
use Rattle.rules.specs.Chain.{is_accepted}
use Rattle.rules.specs.Refusals.{check_table}
use Rattle.rules.specs.File.{check_whole, decode}
use Rattle.rules.specs.Operations.{taking, reading, check_file}
use Rattle.facts.proofs.Chain.{first-refuses, second_decides}
use Rattle.facts.proofs.Reading.{reading_is, refusal_read, file_whole}
use Rattle.file_claims.specs.Parts.{TwoParts}
use Rattle.file_claims.proofs.Numbers.{Gives, nothing, some, OfWhole, whole_gives, OfTable, table_gives}

first_of : {r : Refusal} → Gives OfWhole r → OfWhole r
first_of nothing = (omega arith, refl)
first_of (some p) = p

second_of : {r : Refusal} → Gives OfTable r → (r.number ≡ 0) ⊎ OfTable r
second_of nothing = inl refl
second_of (some p) = inr p

-- no number is of both
above : (r : Refusal) → (r.number ≡ 0) ⊎ OfTable r → (r.number ≡ 0) ⊎ (4 < r.number)
above r (inl e) = inl e
above r (inr (inl h)) = inr (omega (arith, h.low))
above r (inr (inr e)) = inr (omega arith)

only_zero : {n : ℕ} → (n ≡ 0) ⊎ (4 < n) → n ≤ 4 → n ≡ 0
only_zero (inl e) h = e
only_zero (inr a) h = absurd (omega arith)

module _ (s : List ℕ) where
  first-tells : is_accepted (check_whole s) ≡ false → check_whole s ≡ (reading s).refusal
  unfolding check_file
  first-tells refuses = sym (refusal_read s ∙ first-refuses (check_whole s) (check_table (decode s)) refuses)

  second-tells : is_accepted (check_whole s) ≡ true → (reading s).refusal ≡ check_table (decode s)
  unfolding check_file
  second-tells came = refusal_read s ∙ second_decides (check_whole s) (check_table (decode s)) came

  told-whole : ((reading s).refusal.number ≡ 0) ⊎ (4 < (reading s).refusal.number) → is_accepted (check_whole s) ≡ true
  told-whole told = go (is_accepted (check_whole s)) refl
    where
      go : (b : Bool) → is_accepted (check_whole s) ≡ b → b ≡ true
      go true e = refl
      go false e =
          let same = ap (λ (r : Refusal). r.number) (first-tells e) in
          sym e ∙ eq-eqb (check_whole s).number 0 (same ∙ only_zero told (rw same at (first_of (whole_gives s)).0))

  pub accepted-whole : is_accepted (reading s).refusal ≡ true → is_accepted (check_whole s) ≡ true
  accepted-whole ok = file_whole s (rw (refusal_read s) at ok)

  pub two-parts : TwoParts s
  unfolding taking
  two-parts = record {
    first = first_of (whole_gives s);
    second = second_of (table_gives (decode s));
    exactly = (λ came. rw (second-tells came) (above (check_table (decode s)) (second_of (table_gives (decode s)))), told-whole);
    otherwise = first-tells;
    accepted = accepted-whole;
    as_one = reading_is s;
  }
