-- What writing promises, refused and done, and the whole file stored. Assumes nothing.
use mathlib.Core.Path.{◌≡◌, sym, ◌∙◌}
use mathlib.Core.List.{List, ◌++◌}
use Prim.Native.Nat.{ℕ, ◌+◌, ◌≤◌}
use native.Mathlib.Omega.{arith}
use native.Mathlib.Nat.{zero-add}
use lib.ListN.{length, length-append, take, drop}
use lib.Seq.{sets, take-append_seam}
use Rattle.std.specs.Prelude.{Result, Ok, Err}
use Rattle.rules.specs.declared.Table.{Table}
use Rattle.rules.specs.Chain.{granted}
use Rattle.rules.specs.declared.Refusal.{Refusal}
use Rattle.rules.specs.File.{sets_at, records_at, record_size, file_length, trailer, body, encode}
use Rattle.rules.specs.Operations.{check_write, writing, out_after}
use Rattle.writer.specs.Answers.{Wrote}
use Rattle.facts.proofs.Chain.{granted-where, was-denied, was-allowed}
use Rattle.laws.proofs.Bytes.{bytes-length}
use Rattle.laws.proofs.Runs.{sets-after, sets-front}

-- 46 + 2·8 + 29·32 is 990
pub file_small : (form cores tasks : ℕ) → cores ≤ 8 → tasks ≤ 32 → file_length form cores tasks ≤ 990
unfolding file_length records_at record_size sets_at
file_small form cores tasks c t = omega arith

pub encode-length : (t : Table) → length (encode t) ≡ length (body t) + 12
unfolding encode trailer
encode-length t = simp (length-append, bytes-length)

module _ (t : Table) (out : List ℕ) where
  -- as code answers it
  pub written_is : granted (writing t out).refusal (writing t out).length ≡ granted (check_write t out) (length (encode t))
  unfolding writing
  written_is = granted-where _ _ _

  -- a refusal changes nothing
  pub refuses_all : {r : Result ℕ Refusal} {d : Refusal} → r ≡ Err d → r ≡ granted (check_write t out) (length (encode t)) → Wrote t out r out
  unfolding writing out_after
  refuses_all is e =
      let not = (was-denied (check_write t out) (length (encode t)) (sym (sym is ∙ e))).0 in
      record { answered = e ∙ sym written_is; stored = rw not; small = rw not (omega arith) }

  pub writes_all : {n : ℕ} → Ok n ≡ granted (check_write t out) (length (encode t)) → length (encode t) ≤ 990
      → Wrote t out (Ok n) (encode t ++ drop (length (encode t)) out)
  unfolding writing out_after
  writes_all e few =
      let yes = (was-allowed (check_write t out) (length (encode t)) (sym e)).0 in
      record { answered = e ∙ sym written_is; stored = rw yes; small = rw yes few }

  -- the body stored, then the trailer of what is stored
  pub file_stores : length (encode t) ≤ length out
      → sets (sets out 0 (body t)) (length (body t)) (trailer (take (length (body t)) (sets out 0 (body t)))) ≡ encode t ++ drop (length (encode t)) out
  unfolding encode
  file_stores h =
      let front : take (length (body t)) (sets out 0 (body t)) ≡ body t =
      rw (sets-front (body t) out (omega (arith, encode-length t))) (take-append_seam (body t) (drop (length (body t)) out))
      in
      rw front (sets-after (body t) (trailer (body t)) out 0 (length (body t)) (sym (zero-add _)) ∙ sets-front (encode t) out h)
