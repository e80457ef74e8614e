-- RULES 10.2: the number with which a program that lists a file ends. Assumes nothing.
use Rattle.std.specs.Prelude.{ℕ, Bool, cond, not, List}
use Rattle.rules.specs.declared.Refusal.{Refusal}
use Rattle.rules.specs.declared.Answer.{Answer}
use Rattle.laws.specs.Idioms.{every, up_to, entry}
use Rattle.rules.specs.Judgement.{misses}
use Rattle.rules.specs.Chain.{is_accepted}
use Rattle.rules.specs.Operations.{read_to_judge, judge_all, fresh_starts}
use Rattle.rules.specs.Listing.{is_miss}

-- task number k holds; tasks 1 to n all hold
abbrev pub held : List Answer → ℕ → Bool
held answers k = not (is_miss (entry (misses 0) answers k).verdict)

unfoldable pub all_hold : ℕ → List Answer → Bool
all_hold n answers = every (held answers) (up_to n)

-- 0: accepted, and every task holds. 1: accepted, and a task misses. 2: refused
unfoldable pub status_of : Refusal → ℕ → List Answer → ℕ
status_of refusal tasks answers = cond (is_accepted refusal) (cond (all_hold tasks answers) 0 1) 2

-- of a file, each task of its table judged from nothing
unfoldable pub file_status : List ℕ → ℕ
file_status s = status_of (read_to_judge s).refusal (read_to_judge s).table.tasks (judge_all (read_to_judge s).table fresh_starts).answers
