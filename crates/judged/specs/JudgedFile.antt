-- What the judgement of a file into three outputs answers, and what it leaves in them. Assumes nothing.
use Rattle.std.specs.Prelude.{List, map, ℕ}
use Rattle.rules.specs.declared.Refusal.{Refusal}
use Rattle.rules.specs.declared.Answer.{Answer}
use Rattle.laws.specs.Idioms.{up_to, entry}
use Rattle.rules.specs.Judgement.{judge}
use Rattle.rules.specs.Chain.{◌or_else◌}
use Rattle.rules.specs.Refusals.{check_all}
use Rattle.rules.specs.File.{tasks_in, decode}
use Rattle.rules.specs.Operations.{check_to_judge}
use Rattle.stored.specs.Stored.{check_outputs, Stored}

-- a task that is given no start starts at 0, which is the entry beyond the list's end; starts beyond the tasks mean nothing (RULES 6.3)
unfoldable pub check_judging : List ℕ → List ℕ → Refusal
check_judging s starts = check_to_judge s or_else check_all (decode s) (entry 0 starts)

-- the file's refusals, then those of the starts, then 255 where an output has fewer places than the file has tasks
unfoldable pub check_judged_file : List ℕ → List ℕ → List ℕ → List ℕ → List ℕ → Refusal
check_judged_file s starts bounds rounds by = check_judging s starts or_else check_outputs (tasks_in s) bounds rounds by

unfoldable pub answers_of : List ℕ → List ℕ → List Answer
answers_of s starts = map (λ k. judge (decode s) k (entry 0 starts k)) (up_to (tasks_in s))

-- the outputs afterwards
abbrev pub JudgedFile : List ℕ → List ℕ → List ℕ → List ℕ → List ℕ → List ℕ → List ℕ → List ℕ → Type 0
JudgedFile s starts bounds rounds by = Stored (check_judged_file s starts bounds rounds by) (answers_of s starts) bounds rounds by
