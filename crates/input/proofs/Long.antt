-- The first 7,952 bytes of an input stand for it: where it has as many, it is longer than its header's counts ask for, and so are they.
-- Only the header's counts need be bytes. Assumes nothing.
use mathlib.Core.Path.{◌≡◌, refl, sym, ◌∙◌}
use mathlib.Core.Bool.{Bool, true, false}
use mathlib.Core.List.{List}
use Prim.Native.Nat.{ℕ, ◌<◌, ◌≤◌}
use native.Mathlib.Omega.{arith}
use lib.Dec.{ltb}
use lib.ListN.{length, take, get_or}
use lib.Seq.{get_or-take, length-take-le, take_all}
use borrow.Author.Tests.{le-ltb, ltb-true, ltb-false, ne_eqb}
use Rattle.rules.specs.Chain.{refused, is_accepted}
use Rattle.rules.specs.File.{sets_at, records_at, record_size, file_length, cores_in, tasks_in, form_in, check_whole}
use Rattle.rules.specs.Operations.{empty_table, reading, check_file, check_to_judge, read_to_judge}
use Rattle.rules.specs.Listing.{listing}
use Rattle.rules.specs.Salvage.{salvaging, salvaged_out}
use Rattle.input.specs.StandsFor.{StandsFor}
use Rattle.input.proofs.Salvaged.{same-salvage}

-- 46 + 2·255 + 29·255 is 7,951
file_length_lem : (form cores tasks : ℕ) → cores < 256 → tasks < 256 → file_length form cores tasks < 7952
unfolding file_length records_at record_size sets_at
file_length_lem form cores tasks c t = omega arith

-- more bytes than that are refused by 2 (RULES 7.5)
module _ (s : List ℕ) (cores : cores_in s < 256) (tasks : tasks_in s < 256) (long : 7952 ≤ length s) where
  wrong_length : check_whole s ≡ refused 2 0
  unfolding check_whole
  wrong_length =
      let asked : ℕ = file_length (form_in s) (cores_in s) (tasks_in s) in
      let short = file_length_lem (form_in s) (cores_in s) (tasks_in s) cores tasks in
      rw (le-ltb (length s) 46 (omega arith), ne_eqb (length s) asked (λ e. omega arith))

  refused_so : reading s ≡ record { refusal = refused 2 0; table = empty_table }
  unfolding reading
  refused_so = rw wrong_length

  not_read : is_accepted (check_file s) ≡ false
  unfolding check_file
  not_read = rw wrong_length

  not_to_judge : read_to_judge s ≡ record { refusal = refused 2 0; table = empty_table }
  unfolding read_to_judge check_to_judge check_file
  not_to_judge = rw wrong_length

-- two such inputs stand for each other, if they are salvaged as the same
module _ (s r : List ℕ) (cores : cores_in s < 256) (tasks : tasks_in s < 256) (long : 7952 ≤ length s)
    (cores' : cores_in r < 256) (tasks' : tasks_in r < 256) (long' : 7952 ≤ length r)
    (salvage : (out : List ℕ) → (salvaging s out ≡ salvaging r out) × (salvaged_out s out ≡ salvaged_out r out)) where
  judged-alike : read_to_judge s ≡ read_to_judge r
  judged-alike = not_to_judge s cores tasks long ∙ sym (not_to_judge r cores' tasks' long')

  both_long : StandsFor s r
  unfolding listing
  both_long = record {
    whole = wrong_length s cores tasks long ∙ sym (wrong_length r cores' tasks' long');
    read = refused_so s cores tasks long ∙ sym (refused_so r cores' tasks' long');
    listed = rw judged-alike;
    salvaged = salvage;
  }

-- an input with its first `room` bytes: a shorter one is all there
module _ (room : ℕ) (enough : 7952 ≤ room) (s r : List ℕ) (begins : take room s ≡ r) (cores : cores_in r < 256) (tasks : tasks_in r < 256) where
  same : length s ≤ room → StandsFor s r
  same short = let e : s ≡ r = sym (take_all room s short) ∙ begins in rw e (record { whole = refl; read = refl; listed = refl; salvaged = λ out. (refl, refl) })

  -- a header's count is that of the front
  header : (i : ℕ) → i < 7952 → get_or r i 0 < 256 → get_or s i 0 < 256
  header i h byte = rw (← begins, get_or-take room s i 0 (omega arith)) at byte

  longer : room < length s → StandsFor s r
  longer long =
      let full : 7952 ≤ length r = rw (← begins, length-take-le room s (omega arith)) enough in
      let cores' : cores_in s < 256 = header 0 (omega arith) cores in
      let tasks' : tasks_in s < 256 = header 2 (omega arith) tasks in
      let first : is_accepted (check_file (take room s)) ≡ false = rw begins (not_read r cores tasks full) in
      let whole = not_read s cores' tasks' (omega arith) in
      both_long s r cores' tasks' (omega arith) cores tasks full
      (λ out. let (told, stored) = rw begins at (same-salvage s room (omega arith) enough cores' tasks' first whole out) in (sym told, sym stored))

  pub stands : StandsFor s r
  stands = go (ltb room (length s)) refl
    where
      go : (b : Bool) → ltb room (length s) ≡ b → StandsFor s r
      go true e = longer (ltb-true room (length s) e)
      go false e = same (ltb-false room (length s) e)
