-- What one request of core q costs a job of core p: JD is linear in each core's arrivals. Assumes nothing.
use mathlib.Core.Path.{◌≡◌, refl, ap, fun_ext, ◌∙◌}
use mathlib.Core.Bool.{Bool, true, false, not, and_comm, and-false}
use mathlib.Core.List.{List, Memᴰ}
use Prim.Native.Nat.{ℕ, ◌+◌, ◌*◌}
use native.Mathlib.Omega.{arith}
use lib.Dec.{eqb}
use borrow.Author.Tests.{eq-eqb}
use Rattle.rules.specs.declared.Table.{Table}
use Rattle.rules.specs.Tasks.{arrivals}
use Rattle.rules.specs.Cores.{bit, share, set_of, is_near, is_far, near, far}
use Rattle.rules.specs.Dram.{crossing, conflict, jinter, JD}
use Rattle.facts.specs.Prices.{if_far, if_near, weight, job_at}
use Rattle.laws.specs.Idioms.{sum_over, some, up_to, below}
use Rattle.laws.proofs.Linear.{sum_same, sum-plus, sum_times, sum_zero, sum-those_times, sum_swap}
use Rattle.laws.proofs.Members.{member_those}
use Rattle.laws.proofs.Tests.{and_both}

-- ---- what a q requests of each core q cost core p, core by core

module _ (t : Table) (a : ℕ → ℕ) where
  -- every core's requests at a price
  abbrev charged : (ℕ → ℕ) → ℕ
  charged price = sum_over (up_to t.cores) (λ q. a q * price q)

  -- those of the far cores, each at a crossing
  abbrev crossed : ℕ → ℕ
  crossed p = sum_over (far t p) (λ q. a q * (crossing t).0)

  charged-plus : (f g : ℕ → ℕ) → charged (λ q. f q + g q) ≡ charged f + charged g
  charged-plus f g =
      sum_same _ _ (up_to t.cores) (λ q m. omega arith) ∙ sum-plus (λ q. a q * f q) (λ q. a q * g q) (up_to t.cores)

  charged-sum : (f : ℕ → ℕ → ℕ) (rs : List ℕ) → sum_over rs (λ r. charged (f r)) ≡ charged (λ q. sum_over rs (λ r. f r q))
  charged-sum f rs =
      sum_swap (λ r q. a q * f r q) rs (up_to t.cores)
      ∙ sum_same _ _ (up_to t.cores) (λ q m. sum_times (a q) (λ r. f r q) rs)

  crossed-charged : (p : ℕ) → crossed p ≡ charged (if_far t p)
  unfolding far
  crossed-charged p = sum-those_times (is_far t p) a (crossing t).0 (up_to t.cores)

  conflicts_charged : (p : ℕ) → sum_over (near t p) (λ q. a q * (conflict t).0) ≡ charged (if_near t p)
  unfolding near
  conflicts_charged p = sum-those_times (is_near t p) a (conflict t).0 (up_to t.cores)

  passed_on_charged : (p : ℕ) → sum_over (near t p) crossed ≡ charged (λ q. sum_over (near t p) (λ r. if_far t r q))
  passed_on_charged p = sum_same _ _ (near t p) (λ r m. crossed-charged r) ∙ charged-sum (if_far t) (near t p)

  pub by_weights : (p : ℕ) → crossed p + sum_over (near t p) (λ q. a q * (conflict t).0 + crossed q) ≡ charged (weight t p)
  unfolding weight
  by_weights p =
      omega (
        arith,
        crossed-charged p,
        conflicts_charged p,
        passed_on_charged p,
        sum-plus (λ q. a q * (conflict t).0) crossed (near t p),
        charged-plus (if_far t p) (if_near t p),
        charged-plus (λ q. if_far t p q + if_near t p q) (λ q. sum_over (near t p) (λ r. if_far t r q)),
      )

pub JD_by_core : (t : Table) (p x : ℕ) → JD t p x ≡ job_at t (weight t p) x
unfolding JD jinter job_at
JD_by_core t p x = by_weights t (λ q. arrivals t q x) p

-- ---- a core's own requests cost it nothing

pub share_comm : (a b : ℕ) → share a b ≡ share b a
unfolding share
share_comm a b = ap (λ (f : ℕ → Bool). some f (below 16)) (fun_ext (λ k. and_comm (bit a k) (bit b k)))

module _ (t : Table) where
  self_not_far : (p : ℕ) → is_far t p p ≡ false
  self_not_far p = rw (eq-eqb p p refl)

  self_not_near : (p : ℕ) → is_near t p p ≡ false
  self_not_near p = rw (eq-eqb p p refl)

  near_shares : (p r : ℕ) → Memᴰ r (near t p) → share (set_of t r) (set_of t p) ≡ true
  unfolding near
  near_shares p r m =
      share_comm (set_of t r) (set_of t p) ∙ (and_both (not (eqb r p)) (share (set_of t p) (set_of t r)) (member_those (is_near t p) (up_to t.cores) m).1).1

  near_not_far : (p r : ℕ) → Memᴰ r (near t p) → is_far t r p ≡ false
  near_not_far p r m = rw (near_shares p r m) (and-false (not (eqb p r)))

  pub weight_self : (p : ℕ) → weight t p p ≡ 0
  unfolding weight
  weight_self p =
      let others = sum_same (λ r. if_far t r p) (λ r. 0) (near t p) (λ r m. rw (near_not_far p r m)) in
      rw (self_not_far p, self_not_near p) (omega (arith, others, sum_zero (near t p)))
