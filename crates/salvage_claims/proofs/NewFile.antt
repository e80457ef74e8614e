-- What salvaging gives where it is not refused: the file of the salvaged table, in the front of the buffer. Assumes nothing.
use mathlib.Core.Path.{◌≡◌}
use mathlib.Core.List.{List}
use Prim.Native.Nat.{ℕ}
use lib.Seq.{take-append_seam, drop-append_seam}
use Rattle.rules.specs.Results.{Read}
use Rattle.rules.specs.Kinds.{marked}
use Rattle.rules.specs.Chain.{accepted}
use Rattle.rules.specs.File.{encode, form_in, first_tasks}
use Rattle.rules.specs.Operations.{reading}
use Rattle.rules.specs.Salvage.{kept, salvaged_table, salvaging, salvaged_out}
use Rattle.kept.proofs.Marked.{marked-says, marked-bus}
use Rattle.salvage_claims.specs.NewFile.{Succeeds, new_file, NewFile}
use Rattle.salvage_claims.proofs.Passed.{passed}
use Rattle.salvage_claims.proofs.SalvagedTable.{table-read, same_bytes, same_record}

module _ (s out : List ℕ) (done : Succeeds s out) where
  file_is : new_file s out ≡ encode (salvaged_table s)
  unfolding salvaging salvaged_out
  file_is = rw done (take-append_seam (encode (salvaged_table s)) _)

  kept_is : (salvaging s out).kept ≡ kept s
  unfolding salvaging
  kept_is = rw done

  new_read : ◌≡◌ {A = Read} (reading (new_file s out)) (record { refusal = accepted; table = first_tasks s (marked (form_in s)) (salvaging s out).kept })
  unfolding salvaged_table
  new_read = let p = passed s out done in rw (file_is, kept_is) (table-read s p.board p.some)

  pub new-file : NewFile s out
  unfolding salvaging salvaged_out
  new-file =
      let p = passed s out done in
      record {
        read = new_read;
        says_so = rw new_read (marked-says (form_in s));
        same_kind = marked-bus (form_in s);
        bytes_stay = λ b. rw (file_is, kept_is) (same_bytes s p.late b);
        record_stays = λ b k low high. rw file_is (same_record s p.late b k low (rw kept_is at high));
        fits = rw done p.room;
        rest-stays = rw done (drop-append_seam (encode (salvaged_table s)) _);
      }
