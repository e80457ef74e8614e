-- A task's line, and the lines of the first tasks, as code puts them together. Assumes nothing.
use mathlib.Core.Path.{◌≡◌, refl, ap}
use mathlib.Core.List.{List, [], ◌∷◌, ◌++◌, map, append_assoc, append-nil}
use Prim.Native.Nat.{ℕ, ◌+◌}
use native.Mathlib.Nat.{add-sub_cancel}
use lib.ListN.{get_or}
use Rattle.rules.specs.declared.Table.{Table}
use Rattle.rules.specs.declared.Answer.{Answer}
use Rattle.rules.specs.declared.Verdict.{Verdict}
use Rattle.rules.specs.declared.Verdict.TheVariants.{Holds, Misses}
use Rattle.rules.specs.Judgement.{misses}
use Rattle.rules.specs.Tasks.{no_task}
use Rattle.rules.specs.Listing.{line, verdict_words, task_line}
use Rattle.laws.specs.Idioms.{text, from, up_to, joined}
use Rattle.laws.specs.Decimal.{decimal}
use Rattle.laws.proofs.Sums.{up_to-next}
use Rattle.rows.specs.Rows.{rows}

-- the end of a task's line: verdict, bound, deciding delay and rounds
abbrev tail : Verdict → ℕ → List ℕ
tail v rounds = line (verdict_words v ++ decimal rounds ∷ [])

after-core : (core rounds : ℕ) (v : Verdict) → line (decimal core ∷ (verdict_words v ++ decimal rounds ∷ [])) ≡ decimal core ++ text " " ++ tail v rounds
unfolding verdict_words
after-core core rounds Misses = refl
after-core core rounds (Holds bound by) = refl

pub task-line : (k core : ℕ) (a : Answer) → task_line k core a ≡ decimal k ++ text " " ++ (decimal core ++ text " ") ++ tail a.verdict a.rounds
unfolding task_line
task-line k core a = rw (after-core core a.rounds a.verdict) (simp append_assoc)

joined_snoc : (f : ℕ → List ℕ) (ks : List ℕ) (k : ℕ) → joined (map f (ks ++ (k ∷ []))) ≡ joined (map f ks) ++ f k
joined_snoc f [] k = rw append-nil
joined_snoc f (j ∷ ks) k = rw (joined_snoc f ks k) (simp append_assoc)

module _ (t : Table) (answers : List Answer) where
  pub rows_none : rows t answers 0 ≡ []
  unfolding rows from
  rows_none = refl

  -- place i holds task number i + 1
  pub rows_next : (i : ℕ) → rows t answers (i + 1) ≡ rows t answers i ++ task_line (i + 1) (get_or t.task i no_task).core (get_or answers i (misses 0))
  unfolding rows
  rows_next i =
      rw (up_to-next i, joined_snoc _ (up_to i) (i + 1))
      (ap (λ (p : ℕ). rows t answers i ++ task_line (i + 1) (get_or t.task p no_task).core (get_or answers p (misses 0))) (add-sub_cancel i 1))
