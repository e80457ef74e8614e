-- What three outputs hold after some answers were to be stored into them. Assumes nothing.
use Rattle.std.specs.Prelude.{◌≡◌, Bool, cond, ◌||◌, List, ◌++◌, map, ℕ, ltb, length, drop}
use Rattle.rules.specs.declared.Answer.{Answer}
use Rattle.rules.specs.declared.Refusal.{Refusal}
use Rattle.rules.specs.Chain.{is_accepted, given}
use Rattle.rules.specs.Judgement.{bound_of}
use Rattle.plain.specs.Codes.{by_number, too_short}

-- an output is too short for n answers: refusal 255 (RULES 9.3)
abbrev pub short : ℕ → List ℕ → Bool
short n out = ltb (length out) n

unfoldable pub check_outputs : ℕ → List ℕ → List ℕ → List ℕ → Refusal
check_outputs n bounds rounds by = given too_short 0 (short n bounds || short n rounds || short n by)

-- values in the first places; those behind them keep what they held
abbrev pub laid_over : List ℕ → List ℕ → List ℕ
laid_over new out = new ++ drop (length new) out

-- an output afterwards: as it was, where something is refused (RULES 9.2)
abbrev pub laid_unless : Refusal → List ℕ → List ℕ → List ℕ
laid_unless refusal new out = cond (is_accepted refusal) (laid_over new out) out

-- the three columns
abbrev pub bound_in : Answer → ℕ
bound_in a = bound_of a.verdict

abbrev pub rounds_in : Answer → ℕ
rounds_in a = a.rounds

abbrev pub by_in : Answer → ℕ
by_in a = by_number a.verdict

-- the outputs with some answers in them, unless something is refused
pub record Stored (refusal : Refusal) (answers : List Answer) (bounds rounds by bounds' rounds' by' : List ℕ) : Type 0 where
  pub bounds_are : bounds' ≡ laid_unless refusal (map bound_in answers) bounds
  pub rounds_are : rounds' ≡ laid_unless refusal (map rounds_in answers) rounds
  pub by_are : by' ≡ laid_unless refusal (map by_in answers) by
