-- RULES 2.8: the sets of a bus table have to pass check 8 and have no other effect. Assumes nothing.
use Rattle.std.specs.Prelude.{ℕ, ◌≡◌, true, List}
use Rattle.rules.specs.declared.Table.{Table}
use Rattle.rules.specs.declared.Answer.{Answer}
use Rattle.rules.specs.Kinds.{is_bus}
use Rattle.rules.specs.Operations.{judge_one, judge_all}
use Rattle.rules.specs.Listing.{table_text}
use Rattle.file_claims.specs.Files.{AcceptedTable}

-- the same table with other sets
abbrev pub with_sets : List ℕ → Table → Table
with_sets sets t = record {
  cores = t.cores;
  partitions = t.partitions;
  tasks = t.tasks;
  fourth = t.fourth;
  timing = t.timing;
  sets = sets;
  task = t.task;
}

-- the premise: a bus table, accepted with its own sets and with these
pub record OnBus (t : Table) (sets : List ℕ) : Type 0 where
  pub bus : is_bus t ≡ true
  pub own-accepted : AcceptedTable t
  pub other-accepted : AcceptedTable (with_sets sets t)

-- two bus tables that differ only in their sets are judged alike, and listed alike
pub record SetsAside : Type 0 where
  pub one : (t : Table) (sets : List ℕ) → OnBus t sets → (k start : ℕ) → judge_one (with_sets sets t) k start ≡ judge_one t k start
  pub all : (t : Table) (sets : List ℕ) → OnBus t sets → (starts : List ℕ) → judge_all (with_sets sets t) starts ≡ judge_all t starts
  pub text : (t : Table) (sets : List ℕ) → OnBus t sets → (answers : List Answer) → table_text (with_sets sets t) answers ≡ table_text t answers
