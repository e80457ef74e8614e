-- A newer file after an older one: the refusal and whose it is, the outputs afterwards, and whether it starts from the older bounds. Assumes nothing.
use Rattle.std.specs.Prelude.{◌≡◌, Bool, cond, ◌&&◌, List, [], map, ℕ, ◌+◌, ◌*◌, take, Result, Ok, Err}
use Rattle.rules.specs.declared.Refusal.{Refusal}
use Rattle.rules.specs.declared.Answer.{Answer}
use Rattle.rules.specs.declared.Faulty.{Faulty}
use Rattle.rules.specs.declared.CarryRefusal.{CarryRefusal}
use Rattle.rules.specs.declared.Faulty.TheVariants.{Neither, Older, Newer}
use Rattle.rules.specs.Chain.{accepted, ◌or_else◌, is_accepted}
use Rattle.rules.specs.Order.{worsens}
use Rattle.rules.specs.File.{tasks_in, decode}
use Rattle.rules.specs.Operations.{check_to_judge, rejudging}
use Rattle.plain.specs.Codes.{code_of}
use Rattle.stored.specs.Stored.{check_outputs, laid_unless, bound_in, by_in, Stored}
use Rattle.judged.specs.JudgedFile.{answers_of}

-- the older file's refusals, then the newer's; which of them is refused
unfoldable pub check_files : List ℕ → List ℕ → Refusal
check_files older newer = check_to_judge older or_else check_to_judge newer

unfoldable pub faulty_file : List ℕ → List ℕ → Faulty
faulty_file older newer = cond (is_accepted (check_to_judge older)) (cond (is_accepted (check_to_judge newer)) Neither Newer) Older

-- then 255, which is neither's, where an output has fewer places than the newer file has tasks
unfoldable pub check_carry : List ℕ → List ℕ → List ℕ → List ℕ → List ℕ → Refusal
check_carry older newer bounds rounds by = check_files older newer or_else check_outputs (tasks_in newer) bounds rounds by

unfoldable pub carry_refusal : List ℕ → List ℕ → List ℕ → List ℕ → List ℕ → CarryRefusal
carry_refusal older newer bounds rounds by = record { refusal = check_carry older newer bounds rounds by; faulty = faulty_file older newer }

-- what code answers: the refusal and whose it is, or where nothing is refused what is asked for; and back, the refusal that an answer has
unfoldable pub granted_carry : {A : Type 0} → CarryRefusal → A → Result A CarryRefusal
granted_carry r x = cond (is_accepted r.refusal) (Ok x) (Err r)

unfoldable pub refusal_carried : {A : Type 0} → Result A CarryRefusal → CarryRefusal
refusal_carried (Ok x) = record { refusal = accepted; faulty = Neither }
refusal_carried (Err r) = r

-- RYB_OLDER, RYB_NEWER, or neither; and the refusal with it in one, from which RYB_TABLE takes it
abbrev pub table_number : Faulty → ℕ
table_number Neither = 0
table_number Older = 1
table_number Newer = 2

unfoldable pub carry_code : CarryRefusal → ℕ
carry_code r = code_of r.refusal + 65536 * table_number r.faulty

-- the answers of the newer file's tasks after the older file
unfoldable pub carried_answers : List ℕ → List ℕ → List Answer
carried_answers older newer = take (tasks_in newer) (rejudging (decode older) (decode newer)).answers

-- the outputs afterwards; bounds and deciding delays are those of a judgement of the newer file from no starts
pub record CarriedFiles (older newer bounds rounds by bounds' rounds' by' : List ℕ) : Type 0 where
  pub stored : Stored (check_carry older newer bounds rounds by) (carried_answers older newer) bounds rounds by bounds' rounds' by'
  pub bounds_fresh : bounds' ≡ laid_unless (check_carry older newer bounds rounds by) (map bound_in (answers_of newer [])) bounds
  pub by_fresh : by' ≡ laid_unless (check_carry older newer bounds rounds by) (map by_in (answers_of newer [])) by

-- both files may be judged and the newer is the older one worsened (RULES 6.4): what `is_carried` says of two tables
unfoldable pub files_worsen : List ℕ → List ℕ → Bool
files_worsen older newer = is_accepted (check_files older newer) && worsens (decode older) (decode newer)
