-- Boards that are alike in their used places delay a request alike, and a job alike for each request. Assumes nothing.
use mathlib.Core.Path.{◌≡◌, refl, sym, ap, ◌∙◌}
use mathlib.Core.List.{map, Memᴰ}
use Prim.Native.Nat.{ℕ, ◌+◌, ◌≤◌}
use Rattle.rules.specs.declared.Table.{Table}
use Rattle.rules.specs.Timing.{Row}
use Rattle.rules.specs.Units.{in_time, ◌⊕◌}
use Rattle.rules.specs.Delays.{pre, act, readwrite, hit, reopen, conf, run, window}
use Rattle.rules.specs.Cores.{is_near, is_far, near, far}
use Rattle.rules.specs.Dram.{crossing, conflict, inter, intra, RD}
use Rattle.facts.specs.Worsened.{Alike}
use Rattle.laws.specs.Idioms.{sum_over, from, up_to, entry}
use Rattle.laws.proofs.Linear.{sum_same}
use Rattle.laws.proofs.Members.{member_those, member_up_to, those-same, map_same}
use Rattle.facts.specs.Prices.{if_far, weight}

-- the fifteen figures of a row, by their places
abbrev figures_of : Row → Row
figures_of w = map (entry 0 w) (up_to 15)

module _ (a b : Table) (alike : Alike a b) where
  -- ---- what a rule makes of the fifteen figures

  of_row : {B : Type 0} (rule : Row → B) → ((w : Row) → rule w ≡ rule (figures_of w)) → rule a.timing ≡ rule b.timing
  of_row rule own =
      own a.timing
      ∙ ap rule (map_same (entry 0 a.timing) (entry 0 b.timing) (up_to 15) (λ k m. let h = member_up_to 15 m in alike.figure k h.0 h.1))
      ∙ sym (own b.timing)

  same-crossing : crossing a ≡ crossing b
  unfolding crossing in_time act readwrite from
  same-crossing = of_row (λ w. in_time w (pre ⊕ act w ⊕ readwrite w)) (λ w. refl)

  same-conflict : conflict a ≡ conflict b
  unfolding conflict in_time conf reopen hit from
  same-conflict = of_row (λ w. in_time w (conf w)) (λ w. refl)

  same-window : window a.timing ≡ window b.timing
  unfolding window from
  same-window = of_row window (λ w. refl)

  same-run : in_time a.timing (run a.timing (window a.timing)) ≡ in_time b.timing (run b.timing (window b.timing))
  unfolding in_time run window from
  same-run = of_row (λ w. in_time w (run w (window w))) (λ w. refl)

  same-readwrite : in_time a.timing (readwrite a.timing) ≡ in_time b.timing (readwrite b.timing)
  unfolding in_time readwrite from
  same-readwrite = of_row (λ w. in_time w (readwrite w)) (λ w. refl)

  same-reopen : in_time a.timing (reopen a.timing) ≡ in_time b.timing (reopen b.timing)
  unfolding in_time reopen from
  same-reopen = of_row (λ w. in_time w (reopen w)) (λ w. refl)

  -- ---- near and far

  near_within : (p q : ℕ) → Memᴰ q (near a p) → (1 ≤ q) × (q ≤ a.cores)
  unfolding near
  near_within p q m = member_up_to a.cores (member_those (is_near a p) (up_to a.cores) m).0

  module _ (p : ℕ) (low : 1 ≤ p) (high : p ≤ a.cores) where
    same-is_near : (q : ℕ) → 1 ≤ q → q ≤ a.cores → is_near a p q ≡ is_near b p q
    same-is_near q l h = rw (alike.set p low high, alike.set q l h)

    same-is_far : (q : ℕ) → 1 ≤ q → q ≤ a.cores → is_far a p q ≡ is_far b p q
    same-is_far q l h = rw (alike.set p low high, alike.set q l h)

    same-near : near a p ≡ near b p
    unfolding near
    same-near =
        those-same (is_near a p) (is_near b p) (up_to a.cores) (λ q m. let h = member_up_to a.cores m in same-is_near q h.0 h.1)
        ∙ rw alike.cores

    same-far : far a p ≡ far b p
    unfolding far
    same-far =
        those-same (is_far a p) (is_far b p) (up_to a.cores) (λ q m. let h = member_up_to a.cores m in same-is_far q h.0 h.1)
        ∙ rw alike.cores

    same-inter : inter a p ≡ inter b p
    unfolding inter
    same-inter = rw (same-far, same-crossing)

  module _ (p : ℕ) (low : 1 ≤ p) (high : p ≤ a.cores) where
    -- equal for each core near p, equal in sum
    sum_near : (f g : ℕ → ℕ) → ((q : ℕ) → 1 ≤ q → q ≤ a.cores → f q ≡ g q) → sum_over (near a p) f ≡ sum_over (near b p) g
    sum_near f g same =
        sum_same f g (near a p) (λ q m. let h = near_within p q m in same q h.0 h.1)
        ∙ rw (same-near p low high)

    same-intra : intra a p ≡ intra b p
    unfolding intra
    same-intra =
        rw (
          sum_near (λ q. (conflict a).0 + inter a q) (λ q. (conflict b).0 + inter b q) (λ q l h. rw (same-conflict, same-inter q l h)),
          same-near p low high,
          same-far p low high,
          same-run,
          same-window,
          same-readwrite,
          same-reopen,
        )

    pub same-RD : RD a p ≡ RD b p
    unfolding RD
    same-RD = rw (same-inter p low high, same-intra)

    same-if_far : (q : ℕ) → 1 ≤ q → q ≤ a.cores → if_far a p q ≡ if_far b p q
    same-if_far q l h = rw (same-is_far p low high q l h, same-crossing)

  pub same-weight : (p q : ℕ) → 1 ≤ p → p ≤ a.cores → 1 ≤ q → q ≤ a.cores → weight a p q ≡ weight b p q
  unfolding weight
  same-weight p q low high l h =
      rw (
        sum_near p low high (λ r. if_far a r q) (λ r. if_far b r q) (λ r l' h'. same-if_far r l' h' q l h),
        same-is_far p low high q l h,
        same-is_near p low high q l h,
        same-crossing,
        same-conflict,
      )
