-- What the operations answer, as docs/RULES.md has it: a refusal, of number 0 where nothing is refused, and beside it what is given. Assumes nothing.
use Rattle.std.specs.Prelude.{ℕ, Bool, List}
use Rattle.rules.specs.declared.Table.{Table}
use Rattle.rules.specs.declared.Refusal.{Refusal}
use Rattle.rules.specs.declared.Salvage.{Salvage}
use Rattle.rules.specs.declared.Answer.{Answer}
use Rattle.rules.specs.declared.Faulty.{Faulty}

-- RULES 7.4: what reading gives
pub record Read : Type 0 where
  pub refusal : Refusal
  pub table : Table

-- RULES 7.4: what writing gives beside the bytes
pub record Written : Type 0 where
  pub refusal : Refusal
  pub length : ℕ

-- RULES 7.7: what salvaging gives beside the bytes
pub record Salvaged : Type 0 where
  pub refusal : Refusal
  pub length : ℕ
  pub promised : ℕ
  pub kept : ℕ
  pub stopped : ℕ

-- and of it what code gives where nothing is refused
abbrev pub counts_of : Salvaged → Salvage
counts_of r = record { length = r.length; promised = r.promised; kept = r.kept; stopped = r.stopped }

-- RULES 6.3: what the judgement of one task gives, and of all
pub record Judged : Type 0 where
  pub refusal : Refusal
  pub answer : Answer

pub record AllJudged : Type 0 where
  pub refusal : Refusal
  pub answers : List Answer

-- RULES 6.5: what the judgement of a newer table after an older one gives
pub record Rejudged : Type 0 where
  pub refusal : Refusal
  pub faulty : Faulty
  pub carried : Bool
  pub answers : List Answer
