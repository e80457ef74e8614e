-- For each core the place of its next task, as a loop over the tasks keeps it. Assumes nothing.
use mathlib.Core.Path.{◌≡◌}
use mathlib.Core.List.{List}
use Prim.Native.Nat.{ℕ, ◌+◌, ◌-◌, ◌<◌}
use native.Mathlib.Decide.{ℕ_discrete}
use native.Mathlib.Omega.{arith}
use lib.ListN.{length, length-set, get_or, set}
use lib.Seq.{get_or-set_same, get_or-set_other}
use borrow.Author.Tests.{eq-eqb, ne_eqb}
use Rattle.laws.specs.Idioms.{Within}
use Rattle.standing.specs.OnCore.{places_on}
use Rattle.standing.proofs.PlacesOn.{places_none, count_next}

pub record Nexts (core begins next : List ℕ) (i : ℕ) : Type 0 where
  pub each : (q : ℕ) → q < 8 → get_or next q 0 ≡ get_or begins q 0 + length (places_on core (q + 1) i)
  pub long : length next ≡ 9

module _ (core : List ℕ) {begins : List ℕ} where
  pub nexts_none : length begins ≡ 9 → Nexts core begins begins 0
  nexts_none e = record { each = λ q h. rw (places_none core (q + 1)) (omega arith); long = e }

  module _ {next : List ℕ} (i : ℕ) (there : Within 1 8 (get_or core i 0)) (so : Nexts core begins next i) where
    abbrev own : ℕ
    own = get_or core i 0

    pub next_at : get_or next (own - 1) 0 ≡ get_or begins (own - 1) 0 + length (places_on core own i)
    next_at = let back : own - 1 + 1 ≡ own = omega (arith, there.low) in rw back at (so.each (own - 1) (omega (arith, there.low, there.high)))

    pub nexts_next : {y : ℕ} → y ≡ get_or next (own - 1) 0 + 1 → Nexts core begins (set next (own - 1) y) (i + 1)
    nexts_next {y} e = record { each = λ q h. go q h (ℕ_discrete q (own - 1)); long = rw length-set so.long }
      where
        go : (q : ℕ) → q < 8 → Dec (q ≡ own - 1) → get_or (set next (own - 1) y) q 0 ≡ get_or begins q 0 + length (places_on core (q + 1) (i + 1))
        go q h (yes same) =
            let one = rw (eq-eqb own (q + 1) (omega (arith, there.low))) at (count_next core (q + 1) i) in
            rw (← same, get_or-set_same next q y 0 (omega (arith, so.long))) (omega (arith, one, so.each q h, rw (← same) at e))
        go q h (no other) =
            let none = rw (ne_eqb own (q + 1) (λ p. other (omega arith))) at (count_next core (q + 1) i) in
            rw (get_or-set_other next (own - 1) q y 0 other) (omega (arith, none, so.each q h))
