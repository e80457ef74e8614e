-- Tasks that stand in arrays from a place on: their sums, and that their figures are those of accepted tasks. Assumes nothing.
use mathlib.Core.Path.{◌≡◌, refl, ◌∙◌}
use mathlib.Core.List.{List, [], ◌∷◌, Memᴰ}
use Prim.Native.Nat.{ℕ, zero, suc, ◌+◌, ◌-◌, ◌*◌, ◌≤◌, ◌<◌}
use native.Mathlib.Nat.{not-suc-le-zero, le_of_suc-le-suc}
use native.Mathlib.Omega.{arith}
use lib.ListN.{length, get_or}
use Rattle.rules.specs.declared.Task.{Task}
use Rattle.laws.specs.Idioms.{◌/↑◌, sum_over}
use Rattle.rules.specs.Tasks.{T, no_task}
use Rattle.facts.specs.Sound.{SoundTask}
use Rattle.counts.specs.Counts.{sum_below, sum_from, released, asked_by, Slots}
use Rattle.counts.proofs.Sums.{below-same}

-- from place a on stands the figure f of some tasks
pub record From (f : Task → ℕ) (l : List Task) (a : ℕ) (xs : List ℕ) : Type 0 where
  pub each : (j : ℕ) → j < length l → get_or xs (a + j) 0 ≡ f (get_or l j no_task)

-- a sum over places from the first on, and over a list's
below-head : (f : ℕ → ℕ) (n : ℕ) → sum_below f (suc n) ≡ f 0 + sum_below (λ j. f (suc j)) n
unfolding sum_below
below-head f zero = omega arith
below-head f (suc n) = omega (arith, below-head f n)

below-list : (g : Task → ℕ) (l : List Task) → sum_below (λ j. g (get_or l j no_task)) (length l) ≡ sum_over l g
unfolding sum_below
below-list g [] = refl
below-list g (x ∷ l) = below-head (λ j. g (get_or (x ∷ l) j no_task)) (length l) ∙ rw (below-list g l)

member_at : {A : Type 0} (l : List A) (j : ℕ) (d : A) → j < length l → Memᴰ (get_or l j d) l
member_at [] j d h = absurd (not-suc-le-zero h)
member_at (x ∷ l) zero d h = Memᴰ.head refl
member_at (x ∷ l) (suc j) d h = Memᴰ.tail (member_at l j d (le_of_suc-le-suc h))

module _ {f : Task → ℕ} {l : List Task} {a e : ℕ} {spans costs : List ℕ} (p : From T l a spans) (x : From f l a costs)
    (ends : e ≡ a + length l) where
  pub asked_is : (carried t : ℕ) → asked_by carried t a e spans costs ≡ sum_over l (λ j. (t /↑ T j + carried) * f j)
  unfolding sum_from released
  asked_is carried t =
      let many : e - a ≡ length l = omega arith in
      rw many
      (below-same _ (λ j. (t /↑ T (get_or l j no_task) + carried) * f (get_or l j no_task)) (length l) (λ j h. rw (p.each j h, x.each j h))
      ∙ below-list (λ i. (t /↑ T i + carried) * f i) l)

  pub slots_are : {cores highest : ℕ} → e ≤ 32 → ((j : Task) → Memᴰ j l → SoundTask cores j) → ((j : Task) → SoundTask cores j → f j ≤ highest)
      → Slots highest a e spans costs
  slots_are {cores} few sound high =
      let back : (i : ℕ) → a ≤ i → a + (i - a) ≡ i = λ i low. omega arith in
      let task : (i : ℕ) → a ≤ i → i < e → SoundTask cores (get_or l (i - a) no_task) = λ i low h. sound _ (member_at l (i - a) no_task (omega arith)) in
      record {
        bounded = record { rises = omega arith; few = few; cost = λ i low h. rw (rw (back i low) at (x.each (i - a) (omega arith))) (high _ (task i low h)) };
        period = λ i low h. rw (rw (back i low) at (p.each (i - a) (omega arith))) (task i low h).T_in;
      }
