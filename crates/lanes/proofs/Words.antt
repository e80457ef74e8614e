-- The two sums of whole words, held in the lanes of four words: what one word more adds, and the sums taken out. Assumes nothing.
use mathlib.Core.Path.{◌≡◌, refl, ap}
use mathlib.Core.List.{List}
use Prim.Native.Nat.{ℕ, ◌+◌, ◌*◌, ◌-◌, ◌/◌, ◌<◌, ◌≤◌}
use native.Mathlib.Omega.{arith}
use native.Mathlib.Nat.{add-sub_cancel_left}
use lib.ListN.{length, take, get_or}
use lib.Seq.{take_all}
use Rattle.laws.specs.Idioms.{number_in, part}
use Rattle.rules.specs.File.{sum_of, running_sum}
use Rattle.lanes.specs.Sums.{sums_of}
use Rattle.lanes.specs.Lanes.{evens_of, added_of, weighed_of, early, sums_in}
use Rattle.lanes.proofs.Running.{part-joined}
use Rattle.lanes.proofs.Lanes.{Split, none, plus, fits, plus-out, evens_at, odds_at, sums_at}

-- e and o hold the sums of the first k words' even and odd bytes by their places, re and ro the running sums of those
pub record Held (s : List ℕ) (k e o re ro : ℕ) : Type 0 where
  pub evens : Split (255 * k) e
  pub odds : Split (255 * k) o
  pub even_runs : Split (4080 * k) re
  pub odd_runs : Split (4080 * k) ro
  pub sum : added_of e + added_of o ≡ sum_of (take (8 * k) s)
  pub running : running_sum (take (8 * k) s) + early e o ≡ 8 * (added_of re + added_of ro)

pub held_none : (s : List ℕ) → Held s 0 0 0 0 0
unfolding added_of weighed_of running_sum
held_none s = record { evens = none; odds = none; even_runs = none; odd_runs = none; sum = refl; running = refl }

module _ (s : List ℕ) (k : ℕ) {e o re ro : ℕ} (held : Held s k e o re ro) where
  -- one word more
  pub held_next : ((i : ℕ) → get_or s i 0 < 256) → 8 * k + 8 ≤ length s → k < 16 → let w = number_in (part s (8 * k) 8) in
      Held s (k + 1) (e + evens_of w) (o + evens_of (w / 256)) (re + (e + evens_of w)) (ro + (o + evens_of (w / 256)))
  held_next byte room few =
      let w = number_in (part s (8 * k) 8) in
      let even : Split (255 * (k + 1)) (e + evens_of w) = plus held.evens (evens_at s byte (8 * k) room) (omega arith) in
      let odd : Split (255 * (k + 1)) (o + evens_of (w / 256)) = plus held.odds (odds_at s byte (8 * k) room) (omega arith) in
      let evens = plus-out held.evens (evens_at s byte (8 * k) room) (omega arith) in
      let odds = plus-out held.odds (odds_at s byte (8 * k) room) (omega arith) in
      let even_runs = plus-out held.even_runs even (omega arith) in
      let odd_runs = plus-out held.odd_runs odd (omega arith) in
      let word = sums_at s byte (8 * k) room in
      let joined = rw (add-sub_cancel_left (8 * k) 8) at (part-joined s (8 * k) (8 * k + 8) (omega arith) room) in
      let sums = ap (λ t. t.sum) joined in
      let next : 8 * (k + 1) ≡ 8 * k + 8 = omega arith in
      record {
        evens = even;
        odds = odd;
        even_runs = plus held.even_runs even (omega arith);
        odd_runs = plus held.odd_runs odd (omega arith);
        sum = rw next (omega (arith, held.sum));
        running = rw next (omega (arith, held.sum, held.running, ap (λ t. t.running) joined));
      }

  -- no lane of 16 words overflows
  pub held_fits : k ≤ 16 → (e < 18446744073709551616) × (o < 18446744073709551616) × (re < 18446744073709551616) × (ro < 18446744073709551616)
  held_fits few = (fits held.evens (omega arith), fits held.odds (omega arith), fits held.even_runs (omega arith), fits held.odd_runs (omega arith))

  pub early-fits : early e o ≤ 8 * (added_of re + added_of ro)
  early-fits = omega (arith, held.running)

  pub sums_in_lem : 8 * k ≡ length s → sums_in e o re ro ≡ sums_of s
  sums_in_lem whole =
      let all : take (8 * k) s ≡ s = take_all (8 * k) s (omega arith) in
      let total : added_of e + added_of o ≡ sum_of s = rw all at held.sum in
      let running : 8 * (added_of re + added_of ro) - early e o ≡ running_sum s = omega (arith, rw all at held.running) in
      rw (total, running)
