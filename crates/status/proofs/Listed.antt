-- The number with which a program ends says what the listing says. Assumes nothing.
use mathlib.Core.Path.{◌≡◌, refl, sym, ◌∙◌}
use mathlib.Core.Bool.{Bool, true, false, cond, not, ◌&&◌}
use mathlib.Core.List.{List, [], ◌∷◌, ◌++◌, append_assoc}
use Prim.Native.Nat.{ℕ, ◌≤◌}
use native.Mathlib.Omega.{arith}
use Rattle.laws.specs.Idioms.{text, up_to, entry, those, every, is_empty}
use Rattle.laws.specs.Decimal.{decimal}
use Rattle.rules.specs.declared.Table.{Table}
use Rattle.rules.specs.declared.Answer.{Answer}
use Rattle.rules.specs.Judgement.{misses}
use Rattle.rules.specs.Tasks.{core_of}
use Rattle.rules.specs.Chain.{is_accepted}
use Rattle.rules.specs.Operations.{read_to_judge, judge_all, fresh_starts}
use Rattle.rules.specs.Listing.{verdict_words, task_line, is_miss, last_line, table_lines, refused_line, listing}
use Rattle.status.specs.Status.{all_hold, file_status}
use Rattle.status.specs.Tied.{EndsIn, TiedToListing}
use Rattle.status.proofs.Decided.{refused_status, accepted_status}
use Rattle.status.proofs.Texts.{Lined, lined_line, lined_lines, told, told-hold, told-miss, told-refused}

-- ---- a text of lines, and what it tells

data Ends (l : List ℕ) : ℕ → Type 0 where
  hold : EndsIn l (text "all hold") → Ends l 0
  miss : (k : ℕ) → EndsIn l (text "first miss " ++ decimal k) → Ends l 1
  refuse : (n : ℕ) → l ≡ text "refused " ++ decimal n ++ text "\n" → Ends l 2

module _ {l : List ℕ} where
  tells : {v : ℕ} → Ends l v → told l ≡ v
  tells (hold (before, e)) = rw e (told-hold (before ++ text "\n"))
  tells (miss k (before, e)) = rw e (told-miss (before ++ text "\n") k)
  tells (refuse n e) = rw e (told-refused n)

  one_end : {v w : ℕ} → Ends l v → Ends l w → v ≡ w
  one_end a b = sym (tells a) ∙ tells b

  at_most : {v : ℕ} → Ends l v → v ≤ 2
  at_most (hold e) = omega arith
  at_most (miss k e) = omega arith
  at_most (refuse n e) = omega arith

  was-hold : {v : ℕ} → Ends l v → v ≡ 0 → EndsIn l (text "all hold")
  was-hold (hold e) h = e
  was-hold (miss k e) h = absurd (omega arith)
  was-hold (refuse n e) h = absurd (omega arith)

  was-miss : {v : ℕ} → Ends l v → v ≡ 1 → (k : ℕ) × EndsIn l (text "first miss " ++ decimal k)
  was-miss (hold e) h = absurd (omega arith)
  was-miss (miss k e) h = (k, e)
  was-miss (refuse n e) h = absurd (omega arith)

  was-refused : {v : ℕ} → Ends l v → v ≡ 2 → (n : ℕ) × (l ≡ text "refused " ++ decimal n ++ text "\n")
  was-refused (hold e) h = absurd (omega arith)
  was-refused (miss k e) h = absurd (omega arith)
  was-refused (refuse n e) h = (n, e)

-- ---- the tasks that miss

hold_or_miss : (p : ℕ → Bool) (l : List ℕ) → every (λ k. not (p k)) l ≡ is_empty (those p l)
hold_or_miss p [] = refl
hold_or_miss p (x ∷ xs) = go (p x) (those p xs) (hold_or_miss p xs)
  where
    go : (b : Bool) (ms : List ℕ) {r : Bool} → r ≡ is_empty ms → not b && r ≡ is_empty (cond b (x ∷ ms) ms)
    go true ms e = refl
    go false ms e = e

-- ---- the lines of a table

last-ends : {l : List ℕ} → Lined l → (ms : List ℕ) → Ends (l ++ last_line ms) (cond (is_empty ms) 0 1)
last-ends (before, e) [] = hold (before, rw (e, append_assoc (before ++ text "\n") (text "all hold") (text "\n")))
last-ends (before, e) (k ∷ ms) = miss k (before, rw (e, append_assoc (before ++ text "\n") (text "first miss " ++ decimal k) (text "\n")))

module _ (t : Table) (answers : List Answer) where
  task_lined : (k : ℕ) → Lined (task_line k (core_of t k) (entry (misses 0) answers k))
  unfolding task_line
  task_lined k =
      let a = entry (misses 0) answers k in
      lined_line (decimal k ∷ decimal (core_of t k) ∷ [] ++ verdict_words a.verdict ++ decimal a.rounds ∷ [])

  table-ends : Ends (table_lines t answers) (cond (all_hold t.tasks answers) 0 1)
  unfolding table_lines all_hold
  table-ends =
      let tasks = up_to t.tasks in
      let missed : ℕ → Bool = λ k. is_miss (entry (misses 0) answers k).verdict in
      let rows = lined_lines (λ k. task_line k (core_of t k) (entry (misses 0) answers k)) task_lined tasks (text "task core verdict bound by rounds", refl) in
      rw (hold_or_miss missed tasks) (last-ends rows (those missed tasks))

-- ---- the listing

refused-ends : (n : ℕ) → Ends (refused_line n) 2
unfolding refused_line
refused-ends n = refuse n refl

listing-ends : (s : List ℕ) → Ends (listing s) (file_status s)
unfolding listing
listing-ends s = go (is_accepted (read_to_judge s).refusal) refl
  where
    go : (b : Bool) → is_accepted (read_to_judge s).refusal ≡ b → Ends (listing s) (file_status s)
    go true e = rw (accepted_status s e, e) (table-ends (read_to_judge s).table (judge_all (read_to_judge s).table fresh_starts).answers)
    go false e = rw (refused_status s e, e) (refused-ends (read_to_judge s).refusal.number)

pub tied_to_listing : (s : List ℕ) → TiedToListing s
tied_to_listing s = let ends = listing-ends s in record {
  no_other = at_most ends;
  all_hold = (was-hold ends, λ e. one_end ends (hold e));
  first-miss = (was-miss ends, λ e. one_end ends (miss e.0 e.1));
  refused = (was-refused ends, λ e. one_end ends (refuse e.0 e.1));
}
