-- The number with which a program ends says whether every task has a bound. Assumes nothing.
use mathlib.Core.Path.{◌≡◌, refl, sym, ap, ◌∙◌}
use mathlib.Core.Bool.{Bool, true, false, not, ◌&&◌}
use mathlib.Core.List.{List, [], ◌∷◌, Memᴰ}
use mathlib.Core.Logic.{◌↔◌}
use Prim.Native.Nat.{ℕ, ◌≤◌}
use native.Mathlib.Omega.{arith}
use Rattle.equation.specs.Outcome.{Outcome, Smallest, Correct, least, none}
use Rattle.laws.specs.Idioms.{up_to, entry, every}
use Rattle.laws.proofs.Tests.{clash, every_member}
use Rattle.laws.proofs.Members.{member_up_to, up_to_has}
use Rattle.rules.specs.declared.Table.{Table}
use Rattle.rules.specs.declared.Delay.{Delay}
use Rattle.rules.specs.declared.Answer.{Answer}
use Rattle.rules.specs.Judgement.{misses, with_delay, judge, IsBound}
use Rattle.rules.specs.Response.{decider}
use Rattle.rules.specs.Chain.{is_accepted}
use Rattle.rules.specs.Refusals.{check_judged}
use Rattle.rules.specs.Operations.{read_to_judge, judge_all, fresh_starts}
use Rattle.rules.specs.Listing.{is_miss}
use Rattle.facts.proofs.AllStarts.{none-refused, all-answered, all-fresh, fresh-starts}
use Rattle.facts.proofs.Points.{fresh-right}
use Rattle.facts.proofs.Starts.{judged-accepted}
use Rattle.facts.proofs.ToJudge.{refusal_to_judge, judged-table, table_to_judge}
use Rattle.status.specs.Status.{held, all_hold, file_status}
use Rattle.status.specs.Tied.{HasBound, IsTask, TiedToBounds}
use Rattle.status.proofs.Decided.{refused_status, accepted_status}

-- ---- a test of every member

module _ {A : Type 0} (p : A → Bool) where
  every_made : (l : List A) → ((x : A) → Memᴰ x l → p x ≡ true) → every p l ≡ true
  every_made [] all = refl
  every_made (x ∷ xs) all = rw (all x (Memᴰ.head refl), every_made xs (λ y m. all y (Memᴰ.tail m)))

  some-fails : (l : List A) → every p l ≡ false → (x : A) × Memᴰ x l × (p x ≡ false)
  some-fails [] e = absurd (clash e)
  some-fails (y ∷ ys) e = go (p y) refl (some-fails ys) e
    where
      go : (b : Bool) → p y ≡ b → (every p ys ≡ false → (x : A) × Memᴰ x ys × (p x ≡ false))
          → b && every p ys ≡ false → (x : A) × Memᴰ x (y ∷ ys) × (p x ≡ false)
      go true q rest e = let (x, m, fails) = rest e in (x, Memᴰ.tail m, fails)
      go false q rest e = (y, Memᴰ.head refl, q)

-- ---- a verdict that is right

module _ {f : ℕ → ℕ} {from deadline : ℕ} (by : ℕ → Delay) where
  holds-bound : {v : Outcome} → Correct f from deadline v → (not (is_miss (with_delay by v)) ≡ true) ↔ ((R : ℕ) × Smallest f from deadline R)
  holds-bound (least {R = R} found) = (λ e. (R, found), λ r. refl)
  holds-bound (none no-solution) =
      (λ e. absurd (clash (sym e)), λ r. absurd (no-solution r.0 r.1.solution))

module _ (t : Table) (judged : is_accepted (check_judged t) ≡ true) (k : ℕ) (low : 1 ≤ k) (high : k ≤ t.tasks) where
  answered : entry (misses 0) (judge_all t fresh_starts).answers k ≡ judge t k 0
  answered = all-answered t fresh_starts (rw (none-refused t judged fresh_starts (all-fresh t (judged-accepted t judged)))) k low high ∙ ap (judge t k) (fresh-starts k)

  held-bound : (held (judge_all t fresh_starts).answers k ≡ true) ↔ ((R : ℕ) × IsBound t k R)
  unfolding judge
  held-bound = rw answered (holds-bound (decider t k) (fresh-right t (judged-accepted t judged) k low high))

-- ---- the file

module _ (s : List ℕ) where
  abbrev table : Table
  table = (read_to_judge s).table

  abbrev answers : List Answer
  answers = (judge_all table fresh_starts).answers

  abbrev Accepted : Type 0
  Accepted = is_accepted (read_to_judge s).refusal ≡ true

  task-bound : Accepted → (k : ℕ) → IsTask s k → (held answers k ≡ true) ↔ HasBound s k
  task-bound a k task =
      let passed = rw (refusal_to_judge s) at a in
      held-bound table (rw (table_to_judge s passed) (judged-table s passed)) k task.0 task.1

  all-bound : Accepted → (all_hold table.tasks answers ≡ true) ↔ ((k : ℕ) → IsTask s k → HasBound s k)
  unfolding all_hold
  all-bound a = (
    λ e k task. (task-bound a k task).0 (every_member (held answers) e (up_to_has table.tasks k task.0 task.1)),
    λ all. every_made (held answers) (up_to table.tasks) (λ k m. let task = member_up_to table.tasks m in (task-bound a k task).1 (all k task)),
  )

  one_without : Accepted → all_hold table.tasks answers ≡ false → (k : ℕ) × IsTask s k × ¬ HasBound s k
  unfolding all_hold
  one_without a e =
      let (k, m, fails) = some-fails (held answers) (up_to table.tasks) e in
      let task = member_up_to table.tasks m in
      (k, task, λ bound. clash (sym ((task-bound a k task).1 bound) ∙ fails))

  decided : (b : Bool) → is_accepted (read_to_judge s).refusal ≡ b → (h : Bool) → all_hold table.tasks answers ≡ h → TiedToBounds s
  decided true a true h =
      let zero : file_status s ≡ 0 = accepted_status s a ∙ rw h in record {
        every-bound = (λ e. (a, (all-bound a).0 h), λ e. zero);
        some-none = (λ e. absurd (omega arith), λ e. absurd (e.3 ((all-bound a).0 h e.1 e.2)));
        refused = (λ e. absurd (omega arith), λ e. absurd (clash (sym a ∙ e)));
      }
  decided true a false h =
      let one : file_status s ≡ 1 = accepted_status s a ∙ rw h in record {
        every-bound = (λ e. absurd (omega arith), λ e. absurd (clash (sym ((all-bound a).1 e.1) ∙ h)));
        some-none = (λ e. let (k, task, without) = one_without a h in (a, k, task, without), λ e. one);
        refused = (λ e. absurd (omega arith), λ e. absurd (clash (sym a ∙ e)));
      }
  decided false r h e =
      let two : file_status s ≡ 2 = refused_status s r in record {
        every-bound = (λ e. absurd (omega arith), λ e. absurd (clash (sym e.0 ∙ r)));
        some-none = (λ e. absurd (omega arith), λ e. absurd (clash (sym e.0 ∙ r)));
        refused = (λ e. r, λ e. two);
      }

  pub tied_to_bounds : TiedToBounds s
  tied_to_bounds = decided (is_accepted (read_to_judge s).refusal) refl (all_hold table.tasks answers) refl
