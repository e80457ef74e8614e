-- Lent columns that hold the figures of a sound table: they can be judged, and judging them is judging the table. Assumes nothing.
use mathlib.Core.Path.{◌≡◌, refl, sym, ap, ◌∙◌}
use mathlib.Core.Bool.{Bool, true, false, cond}
use mathlib.Core.List.{List, [], ◌∷◌, map, map-append}
use Prim.Native.Nat.{ℕ, zero, suc, ◌+◌, ◌-◌, ◌≤◌, ◌<◌}
use native.Mathlib.Nat.{le_refl}
use native.Mathlib.Numerals.{add-one}
use native.Mathlib.Omega.{arith}
use lib.ListN.{length, length-map, take, get_or, get_or-map}
use lib.Seq.{take-suc}
use Rattle.laws.specs.Idioms.{entry, up_to, those, Within}
use Rattle.laws.proofs.Sums.{those-append}
use Rattle.laws.proofs.Runs.{length-map-from}
use Rattle.laws.proofs.Filled.{filled-length}
use Rattle.laws.proofs.Places.{get_or-within, place_of}
use Rattle.rules.specs.declared.Task.{Task}
use Rattle.rules.specs.declared.Table.{Table}
use Rattle.rules.specs.Tasks.{C, H, latest, no_task, core_of, is_on, tasks_on, higher}
use Rattle.facts.specs.Sound.{Sound, SoundTask}
use Rattle.facts.proofs.SoundTasks.{tasks-there}
use Rattle.prices.specs.Costs.{costs_of, no_costs, all_costs}
use Rattle.standing.specs.OnCore.{places_on}
use Rattle.groups.specs.Columns.{InOrder}
use Rattle.standing.proofs.PlacesOn.{places_none, places_next, places_few, places_first, own-within, own_place}
use Rattle.floors.specs.Floors.{twice_on, others_with}
use Rattle.terms.specs.Terms.{terms_of}
use Rattle.climb.specs.Run.{Ready, climbed}
use Rattle.prices.specs.declared.Priced.{Priced}
use Rattle.own.specs.Own.{own_with}
use Rattle.own.specs.declared.Lent.{Lent}
use Rattle.rounds.specs.Lent.{place_at, terms_at, Judgeable}
use Rattle.columns.specs.Numbered.{climbed_for}
use Rattle.columns.specs.Held.{Held}
use Rattle.columns.proofs.FromPlace.{From}
use Rattle.columns.proofs.Stands.{Grouped, Above, lots_for, terms_for, climbed-same, ready_for}

-- the task in place i
abbrev task_in : Table → ℕ → Task
task_in t i = get_or t.task i no_task

one_of : {A B : Type 0} (f : A → B) (b : Bool) (x : A) → map f (cond b (x ∷ []) []) ≡ cond b (f x ∷ []) []
one_of f true x = refl
one_of f false x = refl

module _ (t : Table) (s : Sound t) {l : Lent} (o : Held t l) where
  -- the tasks on core q among the first i are those in its places
  on_places : (q i : ℕ) → i ≤ t.tasks → those (is_on q) (take i t.task) ≡ map (task_in t) (places_on l.core q i)
  on_places q zero h = rw (places_none l.core q)
  on_places q (suc i) h =
      rw (take-suc t.task i no_task (omega (arith, tasks-there t s)), those-append, on_places q i (omega arith), ← add-one i, places_next l.core q i, map-append, one_of, o.per_task.core_is i (omega arith))

  task-sound : (i : ℕ) → i < t.tasks → SoundTask t.cores (task_in t i)
  task-sound i here = let less : i + 1 - 1 ≡ i = omega arith in rw less at (s.task-sound (i + 1) (omega arith) (omega arith))

  on_is : (q : ℕ) → tasks_on t q ≡ map (task_in t) (places_on l.core q t.tasks)
  unfolding tasks_on
  on_is q = on_places q t.tasks (le_refl t.tasks)

  -- a figure of a core's tasks, and of the first of them
  module _ {f : Task → ℕ} {column : List ℕ} (c : InOrder f t.task t.tasks o.order column) where
    figure_at : (q j : ℕ) → q < t.cores → j < length (places_on l.core (q + 1) t.tasks)
        → get_or column (get_or l.tasks.begins q 0 + j) 0 ≡ f (task_in t (get_or (places_on l.core (q + 1) t.tasks) j 0))
    figure_at q j there few =
        let g = o.ordered.each q there in
        c.each (get_or l.tasks.begins q 0 + j) (omega (arith, g.next, g.few)) ∙ ap (λ (i : ℕ). f (task_in t i)) (g.each j few)

    from_places : (q i : ℕ) → q < t.cores → i ≤ t.tasks → From f (map (task_in t) (places_on l.core (q + 1) i)) (get_or l.tasks.begins q 0) column
    from_places q i there h = record { each = go }
      where
        go : (j : ℕ) → j < length (map (task_in t) (places_on l.core (q + 1) i))
            → get_or column (get_or l.tasks.begins q 0 + j) 0 ≡ f (get_or (map (task_in t) (places_on l.core (q + 1) i)) j no_task)
        go j few =
            let ps = places_on l.core (q + 1) i in
            let here : j < length ps = rw (length-map ps (task_in t)) at few in
            figure_at q j there (omega (arith, places_few l.core (q + 1) i t.tasks h))
            ∙ ap (λ (i : ℕ). f (task_in t i)) (places_first l.core (q + 1) i t.tasks h j here)
            ∙ sym (ap f (get_or-within (map (task_in t) ps) j no_task (task_in t 0) few ∙ get_or-map (task_in t) ps j 0))

  count_is : (q : ℕ) → length (tasks_on t q) ≡ length (places_on l.core q t.tasks)
  count_is q = rw (on_is q) (length-map (places_on l.core q t.tasks) (task_in t))

  grouped : Grouped t l.tasks.begins l.tasks.periods l.tasks.execs l.tasks.requests
  grouped q here =
      let g = o.ordered.each q here in
      record {
        next = omega (arith, g.next, count_is (q + 1));
        few = omega (arith, g.few, s.tasks-in.high);
        periods = rw (on_is (q + 1)) (from_places o.columns.periods q t.tasks here (le_refl t.tasks));
        requests = rw (on_is (q + 1)) (from_places o.columns.requests q t.tasks here (le_refl t.tasks));
      }

  module _ (i : ℕ) (here : i < t.tasks) where
    abbrev own : ℕ
    own = (task_in t i).core

    abbrev first : ℕ
    first = get_or l.tasks.begins (own - 1) 0

    own_is : get_or l.core i 0 ≡ own
    own_is = o.per_task.core_is i here

    own_in : Within 1 t.cores own
    own_in = (task-sound i here).core_in

    there : own - 1 < t.cores
    there = omega (arith, own_in.low, own_in.high)

    back : own - 1 + 1 ≡ own
    back = omega (arith, own_in.low)

    less : i + 1 - 1 ≡ i
    less = omega arith

    core_is : core_of t (i + 1) ≡ own
    core_is = rw (core_of, less)

    higher_is : higher t (i + 1) ≡ map (task_in t) (places_on l.core own i)
    unfolding higher
    higher_is = rw (core_is, less) (on_places own i (omega arith))

    place_is : place_at l i ≡ first + length (places_on l.core own i)
    unfolding place_at
    place_is = rw own_is

    ends : place_at l i ≡ first + length (higher t (i + 1))
    ends = place_is ∙ ap (λ (n : ℕ). first + n) (sym (rw higher_is (length-map (places_on l.core own i) (task_in t))))

    rank_low : length (places_on l.core own i) < length (places_on l.core own t.tasks)
    rank_low = own-within l.core own i t.tasks here own_is

    place_low : place_at l i ≤ 32
    place_low =
        let g = rw back at (o.ordered.each (own - 1) there).next in
        omega (arith, place_is, rank_low, g, rw back at (o.ordered.each (own - 1) there).few, s.tasks-in.high)

    -- the task's own figure
    own-figure : {f : Task → ℕ} {column : List ℕ} → InOrder f t.task t.tasks o.order column → get_or column (place_at l i) 0 ≡ f (task_in t i)
    own-figure {f} {column} c =
        ap (λ (k : ℕ). get_or column k 0) place_is
        ∙ (rw back at (figure_at c (own - 1) (length (places_on l.core own i)) there)) rank_low
        ∙ ap (λ (i : ℕ). f (task_in t i)) (own_place l.core own i t.tasks here own_is)

    above_of : {f : Task → ℕ} {column : List ℕ} → InOrder f t.task t.tasks o.order column → From f (higher t (i + 1)) first column
    above_of c = rw higher_is (rw back at (from_places c (own - 1) i there (omega arith)))

    above : Above t (i + 1) first (place_at l i) l.tasks.periods l.tasks.execs l.tasks.requests
    above =
        record {
          ends = ends;
          few = place_low;
          periods = above_of o.columns.periods;
          execs = above_of o.columns.execs;
          requests = above_of o.columns.requests;
        }

    cost_is : entry no_costs l.board.costs own ≡ costs_of t own
    unfolding all_costs costs_of
    cost_is = rw o.board_is (place_of no_costs (costs_of t) 8 t.cores own own_in.low own_in.high)

    terms_are : terms_at l i ≡ terms_for t (i + 1) first (place_at l i) l.tasks.begins l.tasks.periods l.tasks.execs l.tasks.requests
    terms_are =
        rw (core_is, less, own-figure o.columns.execs, own-figure o.columns.requests, o.per_task.latest_is i here, own_is, cost_is)
        (ap
        (λ (b : Priced).
        terms_of (own_with (C (task_in t i)) (H (task_in t i)) (latest (task_in t i)) (costs_of t own).request (others_with b.cores (costs_of t own).weight (twice_on l.tasks.begins l.tasks.requests)) first (place_at l i)) l.tasks.begins l.tasks.periods l.tasks.execs l.tasks.requests)
        o.board_is)

    of_ready : (start : ℕ) → start ≤ get_or l.latest i 0 → Ready (terms_at l i) start
    of_ready start fits =
        rw terms_are (ready_for t (i + 1) grouped above s (omega arith) (omega arith) start (rw less (rw (o.per_task.latest_is i here) at fits)))

    pub of_climbed : (start : ℕ) → climbed (terms_at l i) start ≡ climbed_for t (i + 1) start
    of_climbed start = rw terms_are (climbed-same t (i + 1) grouped above start)

  pub tasks_are : l.board.tasks ≡ t.tasks
  tasks_are = ap (λ (b : Priced). b.tasks) o.board_is

  costs-long : length l.board.costs ≡ 8
  unfolding all_costs costs_of
  costs-long = rw o.board_is (filled-length 8 no_costs (map (costs_of t) (up_to t.cores)) (rw (length-map-from (costs_of t) t.cores 1) s.cores-in.high))

  pub of_judgeable : Judgeable l
  of_judgeable =
      record {
        few = omega (arith, tasks_are, s.tasks-in.high);
        long = o.ordered.long;
        costs-long = costs-long;
        lots = rw (ap (λ (b : Priced). b.cores) o.board_is) (lots_for t s grouped);
        core_in = λ i h. let here : i < t.tasks = omega (arith, tasks_are) in rw (own_is i here) (record { low = (own_in i here).low; high = omega (arith, (own_in i here).high, s.cores-in.high) });
        place_low = λ i h. place_low i (omega (arith, tasks_are));
        ready = λ i start h. of_ready i (omega (arith, tasks_are)) start;
      }
