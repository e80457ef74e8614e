-- The two ways in which a file's judgement ends: the file is refused, or what its judgement gives goes where the outputs have room. Assumes nothing.
use mathlib.Core.Path.{◌≡◌, refl, sym, ◌∙◌}
use mathlib.Core.Bool.{Bool, true, false}
use mathlib.Core.List.{List}
use Prim.Native.Nat.{ℕ}
use lib.ListN.{take}
use Rattle.std.specs.Prelude.{Result, Err, IsErrAnd, ⊤}
use Rattle.laws.specs.Idioms.{entry, filled}
use Rattle.rules.specs.Judgement.{judge, misses}
use Rattle.rules.specs.Chain.{◌or_else◌, is_accepted, granted, refusal_of}
use Rattle.rules.specs.File.{tasks_in, decode}
use Rattle.rules.specs.declared.Refusal.{Refusal}
use Rattle.rules.specs.declared.Answer.{Answer}
use Rattle.rules.specs.Operations.{check_to_judge, answers_from, judge_all}
use Rattle.facts.proofs.ToJudge.{judged_file}
use Rattle.file.proofs.Reading.{file_counts}
use Rattle.facts.proofs.Chain.{both-accepted, second_decides, returned, stops_at, was-denied}
use Rattle.chain.proofs.Walk.{stays}
use Rattle.judged.specs.JudgedFile.{check_judging, check_judged_file, answers_of, JudgedFile}
use Rattle.stored.specs.Stored.{check_outputs, Stored}
use Rattle.stored.proofs.Laid.{unchanged, stored-by}
use Rattle.laws.proofs.Filled.{take-filled}
use Rattle.facts.proofs.LentStarts.{lent_starts_lem}

-- ---- which answers there are, and by what a refusal is decided

-- answers that need be the same only where nothing is refused
same-stored : (t : Bool) {x : Refusal} {a b : List Answer} {bounds rounds by bounds' rounds' by' : List ℕ} → is_accepted x ≡ t → (t ≡ true → a ≡ b)
    → Stored x a bounds rounds by bounds' rounds' by' → Stored x b bounds rounds by bounds' rounds' by'
same-stored true e same stored = rw (same refl) at stored
same-stored false e same stored = record {
  bounds_are = rw e (rw e at stored.bounds_are);
  rounds_are = rw e (rw e at stored.rounds_are);
  by_are = rw e (rw e at stored.by_are);
}

module _ (s starts : List ℕ) where
  -- the starts as the rounds get them
  abbrev pub lent_starts : List ℕ
  lent_starts = filled 32 0 (take 32 starts)

  -- where nothing is refused each task has an answer; the places after the tasks hold none
  answers-all : is_accepted (check_judging s starts) ≡ true → take (tasks_in s) (judge_all (decode s) starts).answers ≡ answers_of s starts
  unfolding check_judging judge_all answers_from answers_of decode
  answers-all passed =
      rw (both-accepted (check_to_judge s) _ passed).1 (take-filled 32 (misses 0) (λ k. judge (decode s) k (entry 0 starts k)) 1 (tasks_in s))

  by_starts : is_accepted (check_to_judge s) ≡ true → (judge_all (decode s) starts).refusal ≡ check_judging s starts
  unfolding check_judging judge_all
  by_starts file = sym (second_decides (check_to_judge s) _ file)

-- ---- the outputs afterwards, and what is returned

module _ (s starts : List ℕ) {bounds rounds by : List ℕ} where
  pub file_refused : {d : Refusal} → Err d ≡ granted (check_to_judge s) (tt {0}) → {x : Result ⊤ Refusal} → IsErrAnd x (λ e. e ≡ d)
      → (x ≡ granted (check_judged_file s starts bounds rounds by) (tt {0})) × JudgedFile s starts bounds rounds by bounds rounds by
  unfolding check_judged_file check_judging
  file_refused is {x} given =
      let decided : x ≡ granted (check_judged_file s starts bounds rounds by) (tt {0}) = stops_at _ _ _ _ given (stays (check_to_judge s) _ _ is) in
      (decided, unchanged (was-denied _ _ (sym decided ∙ returned _ given)).0)

module _ (s starts : List ℕ) (file : is_accepted (check_to_judge s) ≡ true) where
  same-judged : judge_all (decode s) (lent_starts s starts) ≡ judge_all (decode s) starts
  unfolding decode
  same-judged = lent_starts_lem (decode s) starts (file_counts s (judged_file s file)).1

  pub all-judged : {bounds rounds by : List ℕ} {x : Result ⊤ Refusal} {bounds' rounds' by' : List ℕ} → let r = judge_all (decode s) (lent_starts s starts) in
      x ≡ granted (r.refusal or_else check_outputs (tasks_in s) bounds rounds by) (tt {0}) → Stored (refusal_of x) (take (tasks_in s) r.answers) bounds rounds by bounds' rounds' by'
      → (x ≡ granted (check_judged_file s starts bounds rounds by) (tt {0})) × JudgedFile s starts bounds rounds by bounds' rounds' by'
  unfolding check_judged_file
  all-judged given stored =
      let decided = rw (same-judged, by_starts s starts file) at given in
      let all = stored-by _ _ (rw (decided, same-judged) at stored) in
      (decided, same-stored _ refl (λ e. answers-all s starts (both-accepted (check_judging s starts) _ e).0) all)
