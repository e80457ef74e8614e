-- What is known where salvaging is not refused: that each link of its chain gives nothing; and back. Assumes nothing.
use mathlib.Core.Path.{◌≡◌}
use mathlib.Core.Bool.{true, false}
use mathlib.Core.List.{List}
use Prim.Native.Nat.{ℕ, ◌≤◌}
use native.Mathlib.Omega.{arith}
use lib.Dec.{ltb, eqb}
use lib.ListN.{length}
use borrow.Author.Tests.{ltb-false, le-ltb, eqb-false, ne_eqb}
use Rattle.rules.specs.Chain.{is_accepted, ◌or_else◌, given}
use Rattle.rules.specs.Refusals.{check_board}
use Rattle.rules.specs.File.{encode, decode}
use Rattle.rules.specs.Operations.{check_file}
use Rattle.rules.specs.Salvage.{ends_early, kept, salvaged_table, check_salvage, salvaging}
use Rattle.facts.proofs.Chain.{both-accepted, no_fault}
use Rattle.salvage_claims.specs.NewFile.{Succeeds}

pub record Passed (s out : List ℕ) : Type 0 where
  pub refused_file : is_accepted (check_file s) ≡ false
  pub late : ends_early s ≡ false
  pub board : is_accepted (check_board (decode s)) ≡ true
  pub some : 1 ≤ kept s
  pub room : length (encode (salvaged_table s)) ≤ length out

module _ (s out : List ℕ) where
  pub passed : Succeeds s out → Passed s out
  unfolding salvaging check_salvage
  passed done =
      let whole-link = given 19 0 (is_accepted (check_file s)) in
      let early-link = given 17 0 (ends_early s) in
      let none-link = given 17 0 (eqb (kept s) 0) in
      let short = ltb (length out) (length (encode (salvaged_table s))) in
      let (to_none, room) = both-accepted (whole-link or_else early-link or_else check_board (decode s) or_else none-link) (given 15 0 short) done in
      let (to-board, some) = both-accepted (whole-link or_else early-link or_else check_board (decode s)) none-link to_none in
      let (to-early, board) = both-accepted (whole-link or_else early-link) (check_board (decode s)) to-board in
      let (whole, late) = both-accepted whole-link early-link to-early in
      record {
        refused_file = no_fault 18 0 (is_accepted (check_file s)) whole;
        late = no_fault 16 0 (ends_early s) late;
        board = board;
        some = omega (arith, eqb-false (kept s) 0 (no_fault 16 0 (eqb (kept s) 0) some));
        room = ltb-false _ _ (no_fault 14 0 short room);
      }

  pub passes : Passed s out → Succeeds s out
  unfolding salvaging check_salvage
  passes p =
      let some : eqb (kept s) 0 ≡ false = ne_eqb (kept s) 0 (λ none. omega (arith, p.some)) in
      simp (p.refused_file, p.late, p.board, some, le-ltb (length out) (length (encode (salvaged_table s))) p.room)
