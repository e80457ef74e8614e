-- Two jobs of each core's tasks, as a loop finds them. Assumes nothing.
use mathlib.Core.Path.{◌≡◌}
use mathlib.Core.List.{List}
use Prim.Native.Nat.{ℕ, ◌+◌, ◌*◌, ◌<◌, ◌^◌}
use native.Mathlib.Decide.{ℕ_discrete}
use native.Mathlib.Omega.{arith}
use lib.ListN.{length-set, get_or, set}
use lib.Seq.{get_or-set_same, get_or-set_other}
use Rattle.counts.specs.Counts.{twice_of, Summed, Bounded}
use Rattle.floors.specs.Floors.{twice_on, DoubledAt, Doubled}

module _ {begins asks doubled : List ℕ} where
  pub doubled_next : {q r : ℕ} → q < 8 → Doubled q begins asks doubled → Bounded (10 ^ 6) (get_or begins q 0) (get_or begins (q + 1) 0) asks
      → Summed (2 * 10 ^ 6) (twice_of asks) (get_or begins q 0) (get_or begins (q + 1) 0) r → Doubled (q + 1) begins asks (set doubled q r)
  unfolding twice_on
  doubled_next {q} {r} few so low sum = record { long = rw length-set so.long; each = λ k h. go k h (ℕ_discrete k q) }
    where
      go : (k : ℕ) → k < q + 1 → Dec (k ≡ q) → DoubledAt begins asks (set doubled q r) k
      go k h (yes same) =
          let here = get_or-set_same doubled q r 0 (omega (arith, so.long)) in
          rw same (record { is = rw here sum.is; high = rw here (omega (arith, sum.high, low.few, low.rises)) })
      go k h (no other) =
          let old = so.each k (omega (arith, other)) in
          let here = get_or-set_other doubled q k r 0 other in
          record { is = rw here old.is; high = rw here old.high }
