-- The number of an answer to two files is that of the refusal that it is made of. Assumes nothing.
use mathlib.Core.Path.{◌≡◌, refl, sym}
use mathlib.Core.Bool.{Bool, true, false, cond}
use mathlib.Core.List.{List}
use Prim.Native.Nat.{ℕ}
use Rattle.std.specs.Prelude.{Ok, Err}
use Rattle.rules.specs.Chain.{◌or_else◌, is_accepted}
use Rattle.rules.specs.File.{tasks_in}
use Rattle.rules.specs.Operations.{check_to_judge}
use Rattle.facts.proofs.Chain.{both-accepted}
use Rattle.stored.specs.Stored.{check_outputs}
use Rattle.recarry.specs.Files.{granted_carry, refusal_carried, check_files, faulty_file, check_carry, carry_refusal, carry_code}

module _ (older newer bounds rounds by : List ℕ) where
  -- where nothing is refused it is 0
  none-refused : is_accepted (check_carry older newer bounds rounds by) ≡ true → carry_code (carry_refusal older newer bounds rounds by) ≡ 0
  unfolding carry_refusal carry_code check_carry check_files faulty_file
  none-refused e =
      let (files, outputs) = both-accepted (check_to_judge older or_else check_to_judge newer) (check_outputs (tasks_in newer) bounds rounds by) e in
      let (was, is) = both-accepted (check_to_judge older) (check_to_judge newer) files in
      simp (was, is, outputs)

  pub carried_code : carry_code (refusal_carried (granted_carry (carry_refusal older newer bounds rounds by) (tt {0}))) ≡ carry_code (carry_refusal older newer bounds rounds by)
  unfolding granted_carry refusal_carried carry_refusal carry_code
  carried_code = go (is_accepted (check_carry older newer bounds rounds by)) refl
    where
      go : (b : Bool) → is_accepted (check_carry older newer bounds rounds by) ≡ b
          → carry_code (refusal_carried (cond b (Ok (tt {0})) (Err (carry_refusal older newer bounds rounds by)))) ≡ carry_code (carry_refusal older newer bounds rounds by)
      go true p = sym (none-refused p)
      go false p = refl
