-- The refusals of salvaging, in their order, and what is given where there is none. Assumes nothing.
use mathlib.Core.Path.{◌≡◌, refl, sym, ◌∙◌}
use mathlib.Core.Bool.{Bool, true, false}
use mathlib.Core.List.{List}
use Prim.Native.Nat.{ℕ, ◌≤◌, ◌<◌}
use native.Mathlib.Omega.{arith}
use lib.Dec.{ltb, eqb}
use lib.ListN.{length}
use borrow.Author.Tests.{lt-ltb, ltb-false, ne_eqb}
use Rattle.rules.specs.declared.Refusal.{Refusal}
use Rattle.std.specs.Prelude.{Result, Ok, Err}
use Rattle.rules.specs.declared.Salvage.{Salvage}
use Rattle.rules.specs.Results.{counts_of}
use Rattle.rules.specs.Chain.{accepted, is_accepted, ◌or_else◌, given, granted}
use Rattle.rules.specs.Refusals.{check_board}
use Rattle.rules.specs.File.{records_at, cores_in, tasks_in, form_in, encode, decode}
use Rattle.rules.specs.Operations.{check_file, check_write, writing, out_after}
use Rattle.rules.specs.Salvage.{ends_early, kept, stopped, salvaged_table, check_salvage, salvaging, salvaged_out}
use Rattle.places.proofs.Places.{records-limit}
use Rattle.facts.proofs.Accepted.{counts}
use Rattle.facts.proofs.Chain.{both-accepted, second_decides, no_fault, allowed, denied, denied-alike, was-allowed, was-denied}
use Rattle.writer.specs.Answers.{Wrote}
use Rattle.writer.proofs.Writing.{written_is}
use Rattle.kept.proofs.Kept.{kept-most, salvaged-accepted}
use Rattle.salvaging.specs.Front.{check_front, salvaged_by, Salvages}

module _ (s : List ℕ) where
  -- ---- 19, 17, then the board

  pub early : length s < records_at (form_in s) (cores_in s) → ends_early s ≡ true
  unfolding ends_early
  early h = lt-ltb (length s) (records_at (form_in s) (cores_in s)) h

  -- a file of less than four bytes ends before its sets do
  pub few_bytes : length s < 4 → ends_early s ≡ true
  few_bytes h = early (omega (arith, records-limit (form_in s) (cores_in s)))

  pub reached : ends_early s ≡ false → records_at (form_in s) (cores_in s) ≤ length s
  unfolding ends_early
  reached e = ltb-false (length s) (records_at (form_in s) (cores_in s)) e

  -- past them
  module _ (front : is_accepted (check_front s) ≡ true) where
    front-links : (is_accepted (given 19 0 (is_accepted (check_file s)) or_else given 17 0 (ends_early s)) ≡ true) × (is_accepted (check_board (decode s)) ≡ true)
    unfolding check_front
    front-links = both-accepted (given 19 0 (is_accepted (check_file s)) or_else given 17 0 (ends_early s)) (check_board (decode s)) front

    pub front-board-passed : is_accepted (check_board (decode s)) ≡ true
    front-board-passed = front-links.1

    pub front-late : ends_early s ≡ false
    front-late = no_fault 16 0 (ends_early s) (both-accepted (given 19 0 (is_accepted (check_file s))) (given 17 0 (ends_early s)) front-links.0).1

  -- what a board that passed leaves of the counts
  pub board-counts : is_accepted (check_board (decode s)) ≡ true → (cores_in s ≤ 8) × (kept s ≤ 32) × (form_in s < 4)
  unfolding decode
  board-counts board =
      let ((cores, partitions), (tasks, fourth)) = counts (decode s) board in
      (cores.high, omega (arith, kept-most s, tasks.high), fourth)

-- ---- what is answered, and the bytes afterwards

-- what is told of the new file
abbrev pub new : List ℕ → Salvage
new s = record { length = length (encode (salvaged_table s)); promised = tasks_in s; kept = kept s; stopped = stopped s }

module _ (s out : List ℕ) where
  -- where nothing is refused, that is no refusal with a place
  no_refusal : is_accepted (check_salvage s out) ≡ true → check_salvage s out ≡ accepted
  unfolding check_salvage check_front
  no_refusal passes =
      let before : Refusal = check_front s or_else given 17 0 (eqb (kept s) 0) in
      let room : Bool = ltb (length out) (length (encode (salvaged_table s))) in
      let links = both-accepted before (given 15 0 room) passes in
      second_decides before (given 15 0 room) links.0 ∙ rw (no_fault 14 0 room links.1)

  -- as code answers it, and back
  pub answered_is : granted (salvaging s out).refusal (counts_of (salvaging s out)) ≡ granted (check_salvage s out) (new s)
  unfolding salvaging
  answered_is = go (is_accepted (check_salvage s out)) refl
    where
      go : (b : Bool) → is_accepted (check_salvage s out) ≡ b → granted (salvaging s out).refusal (counts_of (salvaging s out)) ≡ granted (check_salvage s out) (new s)
      go true e = rw e
      go false e = denied (check_salvage s out) _ e ∙ sym (denied (check_salvage s out) _ e)

  pub told_is : salvaged_by (granted (salvaging s out).refusal (counts_of (salvaging s out))) ≡ salvaging s out
  unfolding salvaging
  told_is = go (is_accepted (check_salvage s out)) refl
    where
      go : (b : Bool) → is_accepted (check_salvage s out) ≡ b → salvaged_by (granted (salvaging s out).refusal (counts_of (salvaging s out))) ≡ salvaging s out
      go true e = rw (allowed (check_salvage s out) (counts_of (salvaging s out)) e) (rw (no_refusal e))
      go false e = rw (denied (check_salvage s out) (counts_of (salvaging s out)) e, e)

  -- a refusal changes nothing
  pub refuses_all : {r : Result Salvage Refusal} {d : Refusal} → r ≡ Err d → r ≡ granted (check_salvage s out) (new s) → Salvages s out r out
  unfolding salvaging salvaged_out
  refuses_all is e =
      let not = (was-denied (check_salvage s out) (new s) (sym (sym is ∙ e))).0 in
      record { answered = e ∙ sym answered_is; stored = rw not; small = rw not (omega arith) }

  -- writing looks only at the room where a board passed and records are kept
  by_room : is_accepted (check_front s) ≡ true → 1 ≤ kept s → check_salvage s out ≡ check_write (salvaged_table s) out
  unfolding check_salvage check_front check_write
  by_room front some =
      let passes = salvaged-accepted s (front-board-passed s front) some in
      simp (front, ne_eqb (kept s) 0 (λ none. omega arith), passes)

  module _ (front : is_accepted (check_front s) ≡ true) (some : 1 ≤ kept s) {w : Result ℕ Refusal} {after : List ℕ} (wrote : Wrote (salvaged_table s) out w after) where
    links : w ≡ granted (check_salvage s out) (length (encode (salvaged_table s)))
    links = wrote.answered ∙ written_is _ _ ∙ rw (by_room front some)

    pub no_room : {d : Refusal} {r : Result Salvage Refusal} → w ≡ Err d → r ≡ Err d → Salvages s out r after
    unfolding out_after
    no_room {d} fails is =
        let e : Err d ≡ granted (check_salvage s out) (length (encode (salvaged_table s))) = sym fails ∙ links in
        let not = (was-denied _ _ (sym e)).0 in
        let kept-bytes : after ≡ out = wrote.stored ∙ rw (← by_room front some, not) in
        rw kept-bytes (refuses_all is (is ∙ denied-alike _ _ (new s) e))

    pub salvaged : {n k m : ℕ} → w ≡ Ok n → k ≡ kept s → m ≡ stopped s
        → Salvages s out (Ok (record { length = n; promised = tasks_in s; kept = k; stopped = m })) after
    unfolding salvaging salvaged_out out_after writing
    salvaged {n} passes is stop =
        let e : Ok n ≡ granted (check_salvage s out) (length (encode (salvaged_table s))) = sym passes ∙ links in
        let was = was-allowed _ _ (sym e) in
        record {
          answered = rw (← was.1, is, stop) (sym (allowed (check_salvage s out) (new s) was.0)) ∙ sym answered_is;
          small = rw was.0 (rw (← by_room front some, was.0) at wrote.small);
          stored = wrote.stored ∙ rw (← by_room front some, was.0);
        }
