-- The ways in which two files are refused, or judged one after the other. Assumes nothing.
use mathlib.Core.Path.{◌≡◌, refl, sym, ap, ◌∙◌}
use mathlib.Core.Bool.{true, false}
use mathlib.Core.List.{List, [], ◌∷◌, map}
use Prim.Native.Nat.{ℕ, zero, suc}
use lib.ListN.{take}
use Rattle.std.specs.Prelude.{Result, IsErrAnd, ⊤}
use Rattle.rules.specs.declared.Refusal.{Refusal}
use Rattle.rules.specs.declared.Answer.{Answer}
use Rattle.rules.specs.declared.Verdict.{Verdict}
use Rattle.rules.specs.declared.Table.{Table}
use Rattle.rules.specs.declared.CarryRefusal.{CarryRefusal}
use Rattle.rules.specs.declared.Faulty.TheVariants.{Neither, Older, Newer}
use Rattle.rules.specs.Judgement.{judge, misses, bound_of}
use Rattle.rules.specs.Chain.{is_accepted, granted, refusal_of}
use Rattle.rules.specs.Order.{worsens}
use Rattle.rules.specs.File.{tasks_in, decode}
use Rattle.rules.specs.Operations.{check_to_judge, answers_from, fresh, verdicts, check_both, rejudging}
use Rattle.facts.proofs.ToJudge.{judged-table}
use Rattle.facts.proofs.Again.{rejudged_verdicts}
use Rattle.laws.proofs.Filled.{take-filled}
use Rattle.plain.specs.Codes.{by_number}
use Rattle.stored.specs.Stored.{check_outputs, Stored}
use Rattle.stored.proofs.Laid.{unchanged, stored-by}
use Rattle.rejudge.specs.Carried.{about}
use Rattle.rejudge.proofs.Whose.{returned-on, about_granted}
use Rattle.judged.specs.JudgedFile.{answers_of}
use Rattle.recarry.specs.Files.{granted_carry, check_files, faulty_file, check_carry, carry_refusal, carried_answers, CarriedFiles, files_worsen}

-- ---- the verdicts of a judgement after an older file are those of a fresh one

taken : (n : ℕ) (l : List Answer) → verdicts (take n l) ≡ take n (verdicts l)
taken zero l = refl
taken (suc n) [] = refl
taken (suc n) (a ∷ l) = ap {B = List Verdict} (λ r. a.verdict ∷ r) (taken n l)

column : (f : Verdict → ℕ) (l m : List Answer) → verdicts l ≡ verdicts m → map (λ a. f a.verdict) l ≡ map (λ a. f a.verdict) m
column f l m e = sym (through l) ∙ ap (map f) e ∙ through m
  where
    through : (l : List Answer) → map f (verdicts l) ≡ map (λ a. f a.verdict) l
    through [] = refl
    through (a ∷ l) = ap {B = List ℕ} (λ r. f a.verdict ∷ r) (through l)

module _ (older newer : List ℕ) (was : is_accepted (check_to_judge older) ≡ true) (is : is_accepted (check_to_judge newer) ≡ true) where
  both : is_accepted (check_both (decode older) (decode newer)) ≡ true
  unfolding check_both
  both = rw (judged-table older was) (judged-table newer is)

  fresh-answers : take (tasks_in newer) (answers_from (decode newer) fresh) ≡ answers_of newer []
  unfolding answers_from answers_of decode
  fresh-answers = take-filled 32 (misses 0) (λ k. judge (decode newer) k 0) 1 (tasks_in newer)

  as_fresh : verdicts (carried_answers older newer) ≡ verdicts (answers_of newer [])
  unfolding carried_answers
  as_fresh =
      taken (tasks_in newer) _
      ∙ ap (take (tasks_in newer)) (rejudged_verdicts (decode older) (decode newer) both)
      ∙ sym (taken (tasks_in newer) _)
      ∙ ap verdicts fresh-answers

-- ---- what is answered, and the outputs afterwards

module _ (older newer bounds rounds by : List ℕ) where
  -- what the contract says
  abbrev Answered : Result ⊤ CarryRefusal → List ℕ → List ℕ → List ℕ → Type 0
  Answered x bounds' rounds' by' =
      (x ≡ granted_carry (carry_refusal older newer bounds rounds by) (tt {0})) × CarriedFiles older newer bounds rounds by bounds' rounds' by'

  -- a refusal changes nothing
  refused-files : {x : Result ⊤ CarryRefusal} (d : CarryRefusal) → IsErrAnd x (λ e. e ≡ d) → d ≡ carry_refusal older newer bounds rounds by
      → is_accepted d.refusal ≡ false → Answered x bounds rounds by
  unfolding carry_refusal granted_carry
  refused-files {x} d given e refused =
      let h = rw e at refused in
      (returned-on x given ∙ rw (e, h), record { stored = unchanged h; bounds_fresh = rw h; by_fresh = rw h })

  pub older_refused : is_accepted (check_to_judge older) ≡ false → {d : CarryRefusal} → d ≡ record { refusal = check_to_judge older; faulty = Older }
      → {x : Result ⊤ CarryRefusal} → IsErrAnd x (λ e. e ≡ d) → Answered x bounds rounds by
  unfolding carry_refusal check_carry check_files faulty_file
  older_refused e is given = refused-files _ given (rw is (simp e)) (rw is e)

  module _ (was : is_accepted (check_to_judge older) ≡ true) where
    pub newer_refused : is_accepted (check_to_judge newer) ≡ false → {d : CarryRefusal} → d ≡ record { refusal = check_to_judge newer; faulty = Newer }
        → {x : Result ⊤ CarryRefusal} → IsErrAnd x (λ e. e ≡ d) → Answered x bounds rounds by
    unfolding carry_refusal check_carry check_files faulty_file
    newer_refused e is given = refused-files _ given (rw is (simp (was, e))) (rw is e)

    module _ (is : is_accepted (check_to_judge newer) ≡ true) where
      decided : ◌≡◌ {A = CarryRefusal} (record { refusal = check_outputs (tasks_in newer) bounds rounds by; faulty = Neither }) (carry_refusal older newer bounds rounds by)
      unfolding carry_refusal check_carry check_files faulty_file
      decided = simp (was, is)

      carried : {bounds' rounds' by' : List ℕ}
          → Stored (check_carry older newer bounds rounds by) (carried_answers older newer) bounds rounds by bounds' rounds' by'
          → CarriedFiles older newer bounds rounds by bounds' rounds' by'
      carried stored =
          let same = as_fresh older newer was is in
          record {
            stored = stored;
            bounds_fresh = rw (← column bound_of (carried_answers older newer) (answers_of newer []) same) stored.bounds_are;
            by_fresh = rw (← column by_number (carried_answers older newer) (answers_of newer []) same) stored.by_are;
          }

      pub files-judged : {a b : Table} {z : Result ⊤ Refusal} {bounds' rounds' by' : List ℕ} → decode older ≡ a → decode newer ≡ b
          → z ≡ granted (check_outputs b.tasks bounds rounds by) (tt {0})
          → Stored (refusal_of z) (take b.tasks (rejudging a b).answers) bounds rounds by bounds' rounds' by'
          → Answered (about Neither z) bounds' rounds' by'
      unfolding decode carry_refusal carried_answers granted_carry check_outputs
      files-judged e f checked stored =
          let so = stored-by _ _ (rw checked at stored) in (
            about_granted Neither _ _ (rw (← f) at checked) ∙ ap (λ (r : CarryRefusal). granted_carry r (tt {0})) decided,
            carried (rw (← f, ← e, ap (λ (r : CarryRefusal). r.refusal) decided) at so),
          )

-- ---- whether the newer file is the older one worsened

module _ (older newer : List ℕ) where
  pub older_none : is_accepted (check_to_judge older) ≡ false → false ≡ files_worsen older newer
  unfolding files_worsen check_files
  older_none e = simp e

  module _ (was : is_accepted (check_to_judge older) ≡ true) where
    pub newer_none : is_accepted (check_to_judge newer) ≡ false → false ≡ files_worsen older newer
    unfolding files_worsen check_files
    newer_none e = simp (was, e)

    pub both_read : {a b : Table} → is_accepted (check_to_judge newer) ≡ true → a ≡ decode older → b ≡ decode newer → worsens a b ≡ files_worsen older newer
    unfolding files_worsen check_files
    both_read is e f = rw (e, f) (simp (was, is))
