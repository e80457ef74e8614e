-- A newer table judged after an older one has the verdicts of its own fresh judgement, carried or not. Assumes nothing.
use mathlib.Core.Path.{◌≡◌, refl, ap}
use mathlib.Core.Bool.{Bool, true, false, cond}
use mathlib.Core.List.{List, [], ◌∷◌, ◌++◌, map, Memᴰ}
use Prim.Native.Nat.{ℕ, ◌≤◌}
use lib.ListN.{length-map}
use Rattle.equation.proofs.Least.{right_unique}
use Rattle.rules.specs.declared.Table.{Table}
use Rattle.rules.specs.declared.Answer.{Answer}
use Rattle.rules.specs.Response.{decider}
use Rattle.rules.specs.Judgement.{with_delay, rounds_of, judge}
use Rattle.rules.specs.Order.{worsens}
use Rattle.rules.specs.Chain.{is_accepted}
use Rattle.rules.specs.Refusals.{check_table, check_judged}
use Rattle.rules.specs.Operations.{answers_from, fresh, verdicts, older_bound, check_both, rejudging}
use Rattle.facts.proofs.Chain.{both-accepted}
use Rattle.laws.specs.Idioms.{up_to}
use Rattle.laws.proofs.Members.{member_up_to}
use Rattle.facts.proofs.Starts.{judged-accepted}
use Rattle.facts.proofs.Worsened.{worsened}
use Rattle.facts.proofs.Points.{fresh-right, carries}

verdicts-append : (xs ys : List Answer) → verdicts (xs ++ ys) ≡ verdicts xs ++ verdicts ys
verdicts-append [] ys = refl
verdicts-append (x ∷ xs) ys = rw (verdicts-append xs ys)

verdicts-map : (f g : ℕ → Answer) (ks : List ℕ) → ((k : ℕ) → Memᴰ k ks → (f k).verdict ≡ (g k).verdict) → verdicts (map f ks) ≡ verdicts (map g ks)
verdicts-map f g [] same = refl
verdicts-map f g (k ∷ ks) same = rw (same k (Memᴰ.head refl), verdicts-map f g ks (λ j m. same j (Memᴰ.tail m)))

-- two judgements of all tasks, from starts that give each task the same verdict
same-starts : (t : Table) (start other : ℕ → ℕ)
    → ((k : ℕ) → 1 ≤ k → k ≤ t.tasks → (judge t k (start k)).verdict ≡ (judge t k (other k)).verdict)
    → verdicts (answers_from t start) ≡ verdicts (answers_from t other)
unfolding answers_from
same-starts t start other same =
    rw (
      verdicts-append,
      verdicts-append,
      verdicts-map (λ k. judge t k (start k)) (λ k. judge t k (other k)) (up_to t.tasks) (λ k m. same k (member_up_to t.tasks m).0 (member_up_to t.tasks m).1),
      length-map (up_to t.tasks) (λ k. judge t k (start k)),
      length-map (up_to t.tasks) (λ k. judge t k (other k)),
    )

module _ (older newer : Table) (was : is_accepted (check_table older) ≡ true) (is : is_accepted (check_table newer) ≡ true)
    (worse : worsens older newer ≡ true) (k : ℕ) (low : 1 ≤ k) (high : k ≤ newer.tasks) where
  pub carried-verdict : (judge newer k (older_bound older k)).verdict ≡ (judge newer k 0).verdict
  unfolding judge rounds_of
  carried-verdict =
      let high' : k ≤ older.tasks = rw (worsened older newer worse).board.tasks high in
      ap (with_delay (decider newer k)) (right_unique (carries older newer was is worse k low high').right (fresh-right newer is k low high))

pub rejudged_verdicts : (older newer : Table) → is_accepted (check_both older newer) ≡ true
    → verdicts (rejudging older newer).answers ≡ verdicts (answers_from newer fresh)
unfolding rejudging check_both
rejudged_verdicts older newer both = rw both (go (worsens older newer) refl)
  where
    accepted-two : (is_accepted (check_table older) ≡ true) × (is_accepted (check_table newer) ≡ true)
    accepted-two =
        let (was, is) = both-accepted (check_judged older) (check_judged newer) both in
        (judged-accepted older was, judged-accepted newer is)

    go : (b : Bool) → worsens older newer ≡ b
        → verdicts (cond b (answers_from newer (older_bound older)) (answers_from newer fresh)) ≡ verdicts (answers_from newer fresh)
    go true worse =
        same-starts newer (older_bound older) fresh (carried-verdict older newer accepted-two.0 accepted-two.1 worse)
    go false e = refl
