-- Point 1: what a refused operation gives, said of the rules' own definitions. Assumes nothing.
use Rattle.std.specs.Prelude.{ℕ, ◌≡◌, Bool, true, false, List, [], replicate}
use Rattle.rules.specs.declared.Table.{Table}
use Rattle.rules.specs.declared.Faulty.{Faulty}
use Rattle.rules.specs.declared.Faulty.TheVariants.{Neither, Older, Newer}
use Rattle.rules.specs.Judgement.{misses}
use Rattle.rules.specs.Chain.{is_accepted}
use Rattle.rules.specs.Operations.{empty_table, reading, check_view, viewing, writing, out_after, judge_one, judge_all, rejudging}

-- neither table is refused
abbrev pub is_neither : Faulty → Bool
is_neither Neither = true
is_neither Older = false
is_neither Newer = false

-- RULES 9.2, operation by operation. The last field is point 1's: the lent buffer is as it was
pub record Refused : Type 0 where
  pub read : (s : List ℕ) → is_accepted (reading s).refusal ≡ false → (reading s).table ≡ empty_table
  pub view : (s : List ℕ) (k : ℕ) → is_accepted (check_view s k) ≡ false → viewing s k ≡ []
  pub one : (t : Table) (k start : ℕ) → is_accepted (judge_one t k start).refusal ≡ false → (judge_one t k start).answer ≡ misses 0
  pub all : (t : Table) (starts : List ℕ) → is_accepted (judge_all t starts).refusal ≡ false
      → (judge_all t starts).answers ≡ replicate 32 (misses 0)
  pub again : (older newer : Table) → is_accepted (rejudging older newer).refusal ≡ false
      → ((rejudging older newer).carried ≡ false) × ((rejudging older newer).answers ≡ replicate 32 (misses 0))
  pub faulty : (older newer : Table) → is_neither (rejudging older newer).faulty ≡ is_accepted (rejudging older newer).refusal
  pub written_length : (t : Table) (out : List ℕ) → is_accepted (writing t out).refusal ≡ false → (writing t out).length ≡ 0
  pub lent_bytes : (t : Table) (out : List ℕ) → is_accepted (writing t out).refusal ≡ false → out_after t out ≡ out
