-- The terms of a task of a sound table: they are fair, their F and deciding delay are the rules', and so is what judging gives. Assumes nothing.
use mathlib.Core.Path.{◌≡◌, refl, sym, ap, ◌∙◌, fun_ext}
use mathlib.Core.List.{List, Memᴰ}
use Prim.Native.Nat.{ℕ, zero, suc, ◌+◌, ◌-◌, ◌*◌, ◌≤◌, ◌<◌, ◌^◌}
use native.Mathlib.Nat.{add-zero}
use native.Mathlib.Numerals.{add-one}
use native.Mathlib.Omega.{arith}
use lib.ListN.{length, get_or}
use Rattle.equation.specs.Rounds as rounds
use Rattle.rules.specs.declared.Task.{Task}
use Rattle.rules.specs.declared.Table.{Table}
use Rattle.rules.specs.declared.Delay.{Delay}
use Rattle.rules.specs.declared.Picos.{Picos}
use Rattle.rules.specs.declared.Answer.{Answer}
use Rattle.rules.specs.Units.{ps}
use Rattle.rules.specs.Tasks.{C, T, H, releases, latest, tasks_of, task_of, core_of, is_on, tasks_on, higher, arrivals}
use Rattle.rules.specs.Board.{memory_of}
use Rattle.facts.specs.Prices.{prices_of, job_at}
use Rattle.rules.specs.Response.{preemption, request, job, delay, response, decided, F, decider}
use Rattle.rules.specs.Judgement.{with_delay, lowest, rounds_of, judge}
use Rattle.rules.specs.Refusals.{high_start}
use Rattle.facts.specs.Sound.{Sound, SoundTask}
use Rattle.facts.proofs.SoundTasks.{sound-all, sound-higher}
use Rattle.facts.proofs.Boards.{memory-priced}
use Rattle.prices.specs.Costs.{costs_of}
use Rattle.laws.specs.Idioms.{sum_over, from, up_to}
use Rattle.laws.proofs.Sums.{sum-append, up_to-next}
use Rattle.laws.proofs.Members.{member_those}
use Rattle.laws.proofs.Places.{place_of}
use Rattle.board.proofs.Bounds.{price-bounded}
use Rattle.counts.specs.Counts.{sum_below, Slots}
use Rattle.counts.proofs.Sums.{below_next, below-same}
use Rattle.floors.specs.Floors.{weighed, Lots, twice_on, others_with}
use Rattle.job.specs.Job.{arrived_on, job_by, Group}
use Rattle.terms.specs.Terms.{Terms, terms_of, above_of, request_of, job_of, time_of, by_of, Fair}
use Rattle.climb.specs.Run.{lowest_of, Ready, answer_of, is_high, climbed}
use Rattle.own.specs.Own.{own_with}
use Rattle.columns.specs.Numbered.{climbed_for}
use Rattle.columns.proofs.FromPlace.{From, asked_is, slots_are}

-- the tasks of the core in place q, which has number q + 1, stand in places begins[q] to begins[q + 1]
pub record GroupAt (t : Table) (begins spans costs asks : List ℕ) (q : ℕ) : Type 0 where
  pub next : get_or begins (q + 1) 0 ≡ get_or begins q 0 + length (tasks_on t (q + 1))
  pub few : get_or begins (q + 1) 0 ≤ 32
  pub periods : From T (tasks_on t (q + 1)) (get_or begins q 0) spans
  pub requests : From H (tasks_on t (q + 1)) (get_or begins q 0) asks

abbrev pub Grouped : Table → List ℕ → List ℕ → List ℕ → List ℕ → Type 0
Grouped t begins spans costs asks = (q : ℕ) → q < t.cores → GroupAt t begins spans costs asks q

-- their figures are those of accepted tasks
module _ (t : Table) (s : Sound t) {begins spans costs asks : List ℕ} (g : Grouped t begins spans costs asks) where
  sound_on : (q : ℕ) (j : Task) → Memᴰ j (tasks_on t q) → SoundTask t.cores j
  unfolding tasks_on
  sound_on q j mem = sound-all t s (member_those (is_on q) (tasks_of t) mem).0

  slots_on : (q : ℕ) → q < t.cores → Slots (10 ^ 6) (get_or begins q 0) (get_or begins (q + 1) 0) spans asks
  slots_on q h = let j = g q h in slots_are j.periods j.requests j.next j.few (sound_on (q + 1)) (λ i sound. sound.H-high)

  pub lots_for : Lots t.cores begins asks
  lots_for = record { few = s.cores-in.high; each = λ q h. (slots_on q h).bounded }

-- the higher tasks of task number k stand from the first of its core to its own place
pub record Above (t : Table) (k first place : ℕ) (spans costs asks : List ℕ) : Type 0 where
  pub ends : place ≡ first + length (higher t k)
  pub few : place ≤ 32
  pub periods : From T (higher t k) first spans
  pub execs : From C (higher t k) first costs
  pub requests : From H (higher t k) first asks

abbrev pub terms_for : Table → ℕ → ℕ → ℕ → List ℕ → List ℕ → List ℕ → List ℕ → Terms
terms_for t k first place begins spans costs asks =
    let own = costs_of t (core_of t k) in
    terms_of (own_with (C (task_of t k)) (H (task_of t k)) (latest (task_of t k)) own.request (others_with t.cores own.weight (twice_on begins asks)) first place) begins spans costs asks

-- a sum over the cores, by number and by place
below_none : (g : ℕ → ℕ) → sum_over (up_to 0) g ≡ sum_below (λ q. g (q + 1)) 0
unfolding from sum_below
below_none g = refl

below-cores : (g : ℕ → ℕ) (n : ℕ) → sum_over (up_to n) g ≡ sum_below (λ q. g (q + 1)) n
below-cores g zero = below_none g
below-cores g (suc n) =
    rw (← add-one n, up_to-next n, sum-append, below_next (λ q. g (q + 1)) n) (omega (arith, below-cores g n))

abbrev answered : (ℕ → Delay) → rounds.Solved → Answer
answered by run = record { verdict = with_delay by run.verdict; rounds = run.rounds }

module _ (t : Table) (k : ℕ) {first place : ℕ} {begins spans costs asks : List ℕ} (g : Grouped t begins spans costs asks)
    (above : Above t k first place spans costs asks) where
  abbrev m : Terms
  m = terms_for t k first place begins spans costs asks

  -- ---- F

  abbrev price : ℕ → ℕ
  price q = (prices_of t (core_of t k)).per_core q

  weight_at : (q : ℕ) → q < t.cores → (get_or m.own.others.weight q (ps 0)).0 ≡ price (q + 1)
  unfolding costs_of
  weight_at q h =
      let less : q + 1 - 1 ≡ q = omega arith in
      rw less at (ap (λ (x : Picos). x.0) (place_of (ps 0) (λ r. ps (price r)) 8 t.cores (q + 1) (omega arith) (omega arith)))

  arrived_is : (x q : ℕ) → q < t.cores → arrived_on begins spans asks x q ≡ arrivals t (q + 1) x
  unfolding arrived_on arrivals releases
  arrived_is x q h = let j = g q h in asked_is j.periods j.requests j.next 1 x

  job_is : (x : ℕ) → job_of m x ≡ job (memory_of t (core_of t k)) x
  unfolding job_of job_by weighed job job_at
  job_is x =
      rw (memory-priced t (core_of t k))
      (below-same _ _ t.cores (λ q h. rw (arrived_is x q h, weight_at q h)) ∙ sym (below-cores (λ q. arrivals t q x * price q) t.cores))

  request_is : (x : ℕ) → request_of m x ≡ request (memory_of t (core_of t k)) (task_of t k) (higher t k) x
  unfolding request_of request releases costs_of
  request_is x = rw (memory-priced t (core_of t k), asked_is above.periods above.requests above.ends 0 x) (simp add-zero)

  preemption_is : (x : ℕ) → above_of m costs x ≡ preemption (higher t k) x
  unfolding preemption releases
  preemption_is x = asked_is above.periods above.execs above.ends 0 x ∙ simp add-zero

  time-same : time_of m ≡ F t k
  unfolding F response delay time_of
  time-same = fun_ext (λ x. rw (preemption_is x, request_is x, job_is x))

  by_same : by_of m ≡ decider t k
  unfolding by_of decider decided
  by_same = fun_ext (λ x. rw (request_is x, job_is x))

  lowest_is : lowest_of m.own ≡ lowest t k
  unfolding lowest_of lowest
  lowest_is = refl

  high_same : (start : ℕ) → is_high m start ≡ high_start t k start
  unfolding is_high high_start
  high_same start = rw (time-same, lowest_is)

  answer_same : (start : ℕ) → answer_of m start ≡ judge t k start
  unfolding answer_of judge rounds_of
  answer_same start =
      ap (λ (by : ℕ → Delay). answered by (rounds.solve (time_of m) (lowest_of m.own) (latest (task_of t k)) start)) by_same
      ∙ rw (time-same, lowest_is)

  pub climbed-same : (start : ℕ) → climbed m start ≡ climbed_for t k start
  unfolding climbed climbed_for
  climbed-same start = rw (high_same start, answer_same start)

  -- ---- they are fair

  module _ (s : Sound t) (low : 1 ≤ k) (high : k ≤ t.tasks) where
    group_of : (q : ℕ) → q < t.cores → Group m.own.others begins spans asks q
    group_of q h = record { slots = slots_on t s g q h; weight-high = rw (weight_at q h) (price-bounded t s (core_of t k) (q + 1)) }

    fair_for : Fair m
    fair_for =
        let own = s.task-sound k low high in
        let sound : (j : Task) → Memᴰ j (higher t k) → SoundTask t.cores j = λ j mem. sound-higher t s k high mem in
        record {
          exec-high = omega (arith, own.C_in.high, own.D_in.high, own.T_in.high);
          requests-high = own.H-high;
          execs =
              slots_are above.periods above.execs above.ends above.few sound
              (λ i sound. omega (arith, sound.C_in.high, sound.D_in.high, sound.T_in.high));
          asks = slots_are above.periods above.requests above.ends above.few sound (λ i sound. sound.H-high);
          groups = record { few = s.cores-in.high; each = group_of; floor_is = refl };
        }

    pub ready_for : (start : ℕ) → start ≤ latest (task_of t k) → Ready m start
    unfolding lowest_of latest
    ready_for start fits =
        let own = s.task-sound k low high in
        record {
          fair = fair_for;
          lowest-low = own.C_in.low;
          lowest-high = own.C_in.high;
          latest-high = omega (arith, own.D_in.high, own.T_in.high);
          given-high = fits;
        }
