-- Sums over places, and a loop that makes one. Assumes nothing.
use mathlib.Core.Path.{◌≡◌, refl, ◌∙◌}
use mathlib.Core.List.{List}
use Prim.Native.Nat.{ℕ, zero, suc, ◌+◌, ◌-◌, ◌*◌, ◌≤◌, ◌<◌, zero-le}
use native.Mathlib.Nat.{mul-le-mul, sub_self, le_refl, add-zero, add-suc}
use native.Mathlib.Numerals.{add-one}
use native.Mathlib.Omega.{arith}
use lib.ListN.{get_or}
use Rattle.laws.specs.Idioms.{◌/↑◌}
use Rattle.laws.proofs.Quotients.{ceil_pos}
use Rattle.releases.specs.Releases.{Counted}
use Rattle.counts.specs.Counts.{sum_below, sum_from, released, later_of, twice_of, asked_by, Summed, Slots}

pub below_next : (f : ℕ → ℕ) (n : ℕ) → sum_below f (n + 1) ≡ sum_below f n + f n
unfolding sum_below
below_next f n = rw (add-one n)

pub below_mono : (f g : ℕ → ℕ) (n : ℕ) → ((q : ℕ) → f q ≤ g q) → sum_below f n ≤ sum_below g n
unfolding sum_below
below_mono f g zero h = zero-le
below_mono f g (suc n) h = omega (arith, h n, below_mono f g n h)

pub below-same : (f g : ℕ → ℕ) (n : ℕ) → ((q : ℕ) → q < n → f q ≡ g q) → sum_below f n ≡ sum_below g n
unfolding sum_below
below-same f g zero h = refl
below-same f g (suc n) h = omega (arith, h n (omega arith), below-same f g n (λ q l. h q (omega arith)))

pub asked_mono : (carried a e : ℕ) (periods costs : List ℕ) (t u : ℕ) → ((period : ℕ) → t /↑ period ≤ u /↑ period)
    → asked_by carried t a e periods costs ≤ asked_by carried u a e periods costs
unfolding sum_from released
asked_mono carried a e periods costs t u more =
    below_mono _ _ (e - a) (λ j. mul-le-mul (omega (arith, more (get_or periods (a + j) 0))) (le_refl (get_or costs (a + j) 0)))

pub below-high : (f : ℕ → ℕ) (n highest : ℕ) → ((q : ℕ) → q < n → f q ≤ highest) → sum_below f n ≤ n * highest
unfolding sum_below
below-high f zero highest h = zero-le
below-high f (suc n) highest h = omega (arith, h n (omega arith), below-high f n highest (λ q l. h q (omega arith)))

pub below_fewer : (f : ℕ → ℕ) (n more : ℕ) → sum_below f n ≤ sum_below f (n + more)
unfolding sum_below
below_fewer f n zero = rw add-zero (le_refl (sum_below f n))
below_fewer f n (suc more) = rw add-suc (omega (arith, below_fewer f n more))

pub below-plus : (f g : ℕ → ℕ) (n : ℕ) → sum_below (λ i. f i + g i) n ≡ sum_below f n + sum_below g n
unfolding sum_below
below-plus f g zero = refl
below-plus f g (suc n) = omega (arith, below-plus f g n)

-- ---- a loop over places a to e

module _ {highest : ℕ} {f : ℕ → ℕ} {a : ℕ} where
  pub summed-none : Summed highest f a a 0
  unfolding sum_from sum_below
  summed-none = record { is = rw sub_self; high = zero-le }

  pub summed-next : {i s next : ℕ} → a ≤ i → Summed highest f a i s → next ≡ s + f i → f i ≤ highest → Summed highest f a (i + 1) next
  unfolding sum_from
  summed-next {i} low so step small =
      let more : i + 1 - a ≡ i - a + 1 = omega arith in
      let place : a + (i - a) ≡ i = omega arith in
      record { is = rw (more, below_next (λ j. f (a + j)) (i - a), place) (omega (arith, so.is)); high = rw more (omega (arith, so.high)) }

-- the task in place i, where its count is known: released so often, or once less
module _ {highest a e t i count : ℕ} {periods costs : List ℕ} (slots : Slots highest a e periods costs) (low : a ≤ i) (here : i < e)
    (counted : Counted t (get_or periods i 0) count) where
  small : (jobs : ℕ) → jobs ≤ 10000 → jobs * get_or costs i 0 ≤ 10000 * highest
  small jobs few = mul-le-mul few (slots.bounded.cost i low here)

  pub released-next : {s next : ℕ} → Summed (10000 * highest) (released 0 t periods costs) a i s → next ≡ s + count * get_or costs i 0
      → Summed (10000 * highest) (released 0 t periods costs) a (i + 1) next
  unfolding released
  released-next so step =
      let jobs : t /↑ get_or periods i 0 + 0 ≡ count = omega (arith, counted.is) in
      summed-next low so (rw jobs step) (rw jobs (small count counted.high))

  pub later_next : {s next : ℕ} → Summed (10000 * highest) (later_of t periods costs) a i s → next ≡ s + (count - 1) * get_or costs i 0
      → Summed (10000 * highest) (later_of t periods costs) a (i + 1) next
  unfolding later_of
  later_next so step = summed-next low so (rw (← counted.is) step) (rw (← counted.is) (small (count - 1) (omega (arith, counted.high))))

-- ---- from time 1 on every task counts at least twice, with the job that it carries in

module _ {highest a e t : ℕ} {periods asks : List ℕ} (low : 1 ≤ t) (slots : Slots highest a e periods asks) where
  twice_and_later : (i : ℕ) → a ≤ i → i < e → released 1 t periods asks i ≡ twice_of asks i + later_of t periods asks i
  unfolding released later_of twice_of
  twice_and_later i from here =
      let some = ceil_pos t (get_or periods i 0) low (omega (arith, (slots.period i from here).low)) in
      let e : t /↑ get_or periods i 0 + 1 ≡ 2 + (t /↑ get_or periods i 0 - 1) = omega arith in
      rw e (omega arith)

  pub asked_later : asked_by 1 t a e periods asks ≡ sum_from (twice_of asks) a e + sum_from (later_of t periods asks) a e
  unfolding sum_from
  asked_later =
      below-same _ _ (e - a) (λ j h. twice_and_later (a + j) (omega arith) (omega arith))
      ∙ below-plus (λ j. twice_of asks (a + j)) (λ j. later_of t periods asks (a + j)) (e - a)

-- at time 0 once, by that job alone
module _ {highest a e : ℕ} {periods asks : List ℕ} (slots : Slots highest a e periods asks) where
  once : (i : ℕ) → a ≤ i → i < e → twice_of asks i ≡ released 1 0 periods asks i + released 1 0 periods asks i
  unfolding released twice_of
  once i from here =
      let none : 0 /↑ get_or periods i 0 ≡ 0 = grind (arith, (slots.period i from here).low) in
      rw none (omega arith)

  pub asked_first : sum_from (twice_of asks) a e ≡ asked_by 1 0 a e periods asks + asked_by 1 0 a e periods asks
  unfolding sum_from
  asked_first =
      below-same _ _ (e - a) (λ j h. once (a + j) (omega arith) (omega arith))
      ∙ below-plus (λ j. released 1 0 periods asks (a + j)) (λ j. released 1 0 periods asks (a + j)) (e - a)
