-- The demands on table files of specs/Files.antt hold. Assumes nothing.
use mathlib.Core.Path.{◌≡◌, refl, sym, ap, ◌∙◌}
use mathlib.Core.Bool.{Bool, true, false, cond}
use mathlib.Core.List.{List, ◌++◌}
use Prim.Native.Nat.{ℕ, ◌≤◌, zero-le}
use lib.Dec.{ltb}
use lib.ListN.{length, take, drop, set}
use lib.Seq.{take-append_seam, drop-append_seam}
use borrow.Author.Tests.{le-ltb, ltb-false}
use Rattle.rules.specs.declared.Table.{Table}
use Rattle.rules.specs.Chain.{accepted, is_accepted, given}
use Rattle.rules.specs.Refusals.{check_table}
use Rattle.rules.specs.File.{tasks_in, form_in, encode, check_whole, decode}
use Rattle.rules.specs.Operations.{empty_table, check_file, reading, check_write, writing, out_after}
use Rattle.laws.specs.Bytes.{Bytes}
use Rattle.laws.proofs.Tests.{fails}
use Rattle.rules.proofs.EveryRule.{every_rule}
use Rattle.facts.proofs.Chain.{both-accepted, no_fault}
use Rattle.facts.proofs.Reading.{reading_is, refusal_read, decoded_accepted, read_table, read-accepted}
use Rattle.file_claims.specs.Files.{AcceptedFile, AcceptedTable, Check, read_check, Damage, PointOne, Shape, cleared, Return, ReturnInPlace, OneToOne, NotEmpty}
use Rattle.facts.proofs.Came.{whole, came-whole}
use Rattle.file_claims.proofs.Damage.{not_cut, not_altered}
use Rattle.file_claims.proofs.FromFile.{already_cleared, shape_of_read, written_again}
use Rattle.file_claims.proofs.FromTable.{file_small, encode-whole, read_again}
use Rattle.file_claims.proofs.NoRefusal.{table-plain}
use Rattle.file_claims.proofs.Parts.{accepted-whole}
use Rattle.file_claims.proofs.Cleared.{cleared-same}

-- ---- an accepted file

checked : (s : List ℕ) → AcceptedFile s → is_accepted (check_file s) ≡ true
checked s ok = rw (refusal_read s) at ok

read_written_back : (s : List ℕ) → AcceptedFile s → Bytes s → encode (reading s).table ≡ s
read_written_back s ok b = rw (read_table s (checked s ok)) (written_again b (whole s (accepted-whole s ok)))

-- a check that accepts only files that came whole finds both kinds of damage
damaged : (check : Check) → ((s : List ℕ) → is_accepted (check s) ≡ true → is_accepted (check_whole s) ≡ true) → Damage check
damaged check only = record {
  cut_short = λ s ok n less. fails _ (λ e. not_cut n less (whole s (only s ok)) (whole (take n s) (only (take n s) e)));
  one_byte = λ s b ok i v less byte other.
      fails _ (λ e. not_altered i v less other (whole s (only s ok)) (whole (set s i v) (only (set s i v) e)) b byte);
}

pub point_one : PointOne
point_one = record { whole = damaged check_whole (λ s ok. ok); read = damaged read_check accepted-whole }

-- ---- an accepted table

module _ (t : Table) (shape : Shape t) (passed : AcceptedTable t) where
  check_written : check_file (encode t) ≡ accepted
  unfolding check_file
  check_written = rw (came-whole (encode t) (encode-whole shape passed), read_again shape passed) (cleared-same t shape passed ∙ table-plain t passed)

  written_read-back : reading (encode t) ≡ record { refusal = accepted; table = cleared t }
  written_read-back = reading_is (encode t) ∙ rw (check_written, read_again shape passed)

-- ---- what reading gives, accepted or not

read_either : (P : Table → Type 0) (s : List ℕ) → (is_accepted (check_file s) ≡ true → P (decode s)) → P empty_table → P (reading s).table
read_either P s yea nay = rw (reading_is s) (go (is_accepted (check_file s)) refl)
  where
    go : (b : Bool) → is_accepted (check_file s) ≡ b → P (cond b (decode s) empty_table)
    go true e = yea e
    go false e = nay

empty_cleared : cleared empty_table ≡ empty_table
unfolding cleared
empty_cleared = refl

empty_shape : Shape empty_table
empty_shape = record { figures = refl; sets = refl; tasks = refl }

pub return : Return
unfolding decode
return = record {
  read_written = written_read-back;
  written_read = λ s b ok. read_written_back s ok b;
  unused_zero = λ s. read_either (λ t. cleared t ≡ t) s (λ ok. already_cleared s (form_in s) (tasks_in s)) empty_cleared;
  shape-read = λ s. read_either Shape s (λ ok. shape_of_read s (form_in s) (tasks_in s) (decoded_accepted s ok)) empty_shape;
}

-- ---- writing into a lent buffer

module _ (t : Table) (out : List ℕ) (passed : AcceptedTable t) (room : length (encode t) ≤ length out) where
  write-accepted : is_accepted (check_write t out) ≡ true
  unfolding check_write
  write-accepted = rw (passed, le-ltb (length out) (length (encode t)) room)

  written_length : (writing t out).length ≡ length (encode t)
  unfolding writing
  written_length = rw write-accepted

  out_written : out_after t out ≡ encode t ++ drop (length (encode t)) out
  unfolding out_after
  out_written = rw write-accepted

  written_part : take (writing t out).length (out_after t out) ≡ encode t
  written_part = rw (written_length, out_written) (take-append_seam (encode t) _)

rest-kept : (t : Table) (out : List ℕ) → drop (writing t out).length (out_after t out) ≡ drop (writing t out).length out
unfolding writing out_after
rest-kept t out = go (is_accepted (check_write t out))
  where
    go : (b : Bool) → drop (cond b (length (encode t)) 0) (cond b (encode t ++ drop (length (encode t)) out) out) ≡ drop (cond b (length (encode t)) 0) out
    go true = drop-append_seam (encode t) (drop (length (encode t)) out)
    go false = refl

length-fits : (t : Table) (out : List ℕ) → (writing t out).length ≤ length out
unfolding writing check_write
length-fits t out = go (is_accepted (check_write t out)) refl
  where
    go : (b : Bool) → is_accepted (check_write t out) ≡ b → cond b (length (encode t)) 0 ≤ length out
    go true e =
        let short = ltb (length out) (length (encode t)) in
        ltb-false _ _ (no_fault 14 0 short (both-accepted (check_table t) (given 15 0 short) e).1)
    go false e = zero-le

pub return_in_place : ReturnInPlace
return_in_place = record {
  read_written = λ t out shape passed room. rw (written_part t out passed room) (written_read-back t shape passed);
  written_read = λ s out b ok room.
      let back = read_written_back s ok b in
      let passed = read-accepted s (checked s ok) in (
        written_length (reading s).table out passed (rw back room) ∙ ap length back,
        out_written (reading s).table out passed (rw back room) ∙ ap (λ (l : List ℕ). l ++ drop (length l) out) back,
      );
  room = λ t shape passed. file_small shape passed;
  fits = length-fits;
  rest-stays = rest-kept;
}

pub one_to_one : OneToOne
one_to_one = record {
  one_table = λ t u shape shape' passed passed' e.
      sym (read_again shape passed) ∙ ap decode e ∙ read_again shape' passed';
  one_file = λ s r b b' ok ok' e. sym (read_written_back s ok b) ∙ ap encode e ∙ read_written_back r ok' b';
}

pub not_empty : NotEmpty
unfolding every_rule
not_empty = record { shape = record { figures = refl; sets = refl; tasks = refl }; passed = refl }
