-- The response equation over any steady memory: it never falls, steps only where a count does, and is not lower where the tasks and
-- the memory are worse. Assumes nothing.
use mathlib.Core.Path.{◌≡◌, sym, subst}
use mathlib.Core.List.Memᴰ
use mathlib.Core.List.{List, ◌++◌, map, Memᴰ}
use Prim.Native.Nat.{ℕ, ◌+◌, ◌*◌, ◌≤◌}
use native.Mathlib.Omega.{arith}
use native.Mathlib.Nat.{le_refl, le_of_eq, le_antisymm, mul-le-mul}
use Rattle.equation.specs.Equation.{Equation, Count, Steps}
use Rattle.rules.specs.declared.Task.{Task}
use Rattle.rules.specs.Tasks.{C, T, H, releases}
use Rattle.rules.specs.Board.{Memory}
use Rattle.facts.specs.Steady.{Steady, Slower, NoMore}
use Rattle.rules.specs.Response.{preemption, request, job, delay, response}
use Rattle.facts.proofs.Releases.{releases_rise, releases-count}
use Rattle.laws.specs.Idioms.{sum_over}
use Rattle.laws.specs.Pairs.{Paired}
use Rattle.laws.proofs.Paired.{paired_self, sum_paired}

-- ---- one comparison, of which all else is a case: the tasks in t ask for no more than those in u

module _ {t u : ℕ} {hp hp' : List Task} (less : Paired (NoMore t u) hp hp') where
  preemption_no_more : preemption hp t ≤ preemption hp' u
  unfolding preemption
  preemption_no_more = sum_paired (λ j. releases j t * C j) (λ j. releases j u * C j) (λ i j h. mul-le-mul h.often h.exec) less

  asked_no_more : sum_over hp (λ j. releases j t * H j) ≤ sum_over hp' (λ j. releases j u * H j)
  asked_no_more = sum_paired (λ j. releases j t * H j) (λ j. releases j u * H j) (λ i j h. mul-le-mul h.often h.requests) less

  response_no_more : (m m' : Memory) → m.per_request ≤ m'.per_request → m.per_job t ≤ m'.per_job u
      → (i i' : Task) → C i ≤ C i' → H i ≤ H i' → response m i hp t ≤ response m' i' hp' u
  unfolding response delay request job
  response_no_more m m' slow late i i' exec requests =
      let asked : H i + sum_over hp (λ j. releases j t * H j) ≤ H i' + sum_over hp' (λ j. releases j u * H j) = omega (arith, asked_no_more) in
      omega (arith, preemption_no_more, mul-le-mul slow asked)

-- ---- in time

module _ {m : Memory} {elsewhere : List Task} (steady : Steady m elsewhere) (i : Task) (hp : List Task) where
  -- a task with itself, at a later time or at one with the same count
  response_later : (t u : ℕ) → ((j : Task) → Memᴰ j hp → releases j t ≤ releases j u) → m.per_job t ≤ m.per_job u
      → response m i hp t ≤ response m i hp u
  response_later t u often late =
      response_no_more
      (paired_self hp (λ j mem. record { exec = le_refl (C j); requests = le_refl (H j); often = often j mem }))
      m m (le_refl m.per_request) late i i (le_refl (C i)) (le_refl (H i))

  pub response_equation : 1 ≤ C i → Equation (response m i hp) (C i)
  unfolding response
  response_equation some = record {
    rises = λ t u later. response_later t u (λ j mem. releases_rise j t u later) (steady.rises t u later);
    above = λ t pos. omega arith;
    some = some;
  }

  pub response-steps : ((j : Task) → Memᴰ j (hp ++ elsewhere) → 1 ≤ T j) → Steps (response m i hp) (map releases (hp ++ elsewhere))
  response-steps periods = record { counts = counts; steps = steps }
    where
      counts : (c : ℕ → ℕ) → Memᴰ c (map releases (hp ++ elsewhere)) → Count c
      counts c mem =
          let (j, at, same) = Memᴰ.of_map releases (hp ++ elsewhere) mem in
          subst Count same (releases-count j (periods j at))

      steps : (t u : ℕ) → ((c : ℕ → ℕ) → Memᴰ c (map releases (hp ++ elsewhere)) → c t ≡ c u) → response m i hp t ≡ response m i hp u
      steps t u same =
          le_antisymm
          (response_later t u (λ j mem. le_of_eq (own j mem)) (le_of_eq late))
          (response_later u t (λ j mem. le_of_eq (sym (own j mem))) (le_of_eq (sym late)))
        where
          each : (j : Task) → Memᴰ j (hp ++ elsewhere) → releases j t ≡ releases j u
          each j mem = same (releases j) (Memᴰ.map releases mem)

          own : (j : Task) → Memᴰ j hp → releases j t ≡ releases j u
          own j mem = each j (Memᴰ.append_left elsewhere mem)

          late : m.per_job t ≡ m.per_job u
          late = steady.steps t u (λ j mem. each j (Memᴰ.append_right hp mem))

-- ---- with worse tasks and a slower memory

pub response_worse : {m m' : Memory} {i i' : Task} {hp hp' : List Task} {t : ℕ} → Slower m m' → NoMore t t i i'
    → Paired (NoMore t t) hp hp' → response m i hp t ≤ response m' i' hp' t
response_worse {m} {m'} {i} {i'} {t} slower own less =
    response_no_more less m m' slower.per_request (slower.per_job t) i i' own.exec own.requests
