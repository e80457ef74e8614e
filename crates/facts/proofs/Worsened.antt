-- The test of a table worsened, taken apart: one law, so that nobody opens the test again. Assumes nothing.
use mathlib.Core.Path.{◌≡◌}
use mathlib.Core.Bool.{true}
use borrow.Author.Tests.{leb-true, eqb-true}
use Rattle.rules.specs.declared.Task.{Task}
use Rattle.rules.specs.declared.Table.{Table}
use Rattle.rules.specs.Order.{same_board, worse_task, worsens}
use Rattle.facts.specs.Worsened.{Alike, Raised, Worsened}
use Rattle.laws.proofs.Members.{up_to_has}
use Rattle.laws.proofs.Tests.{and_both, every_member}

raised : (i j : Task) → worse_task i j ≡ true → Raised i j
unfolding worse_task
raised i j e =
    let (e₄, period) = and_both _ _ e in
    let (e₃, requests) = and_both _ _ e₄ in
    let (e₂, exec) = and_both _ _ e₃ in
    let (core, deadline) = and_both _ _ e₂ in
    record {
      core = eqb-true _ _ core;
      deadline = eqb-true _ _ deadline;
      exec = leb-true _ _ exec;
      requests = leb-true _ _ requests;
      period = leb-true _ _ period;
    }

alike : (a b : Table) → same_board a b ≡ true → Alike a b
unfolding same_board
alike a b e =
    let (e₅, sets) = and_both _ _ e in
    let (e₄, figures) = and_both _ _ e₅ in
    let (e₃, fourth) = and_both _ _ e₄ in
    let (e₂, tasks) = and_both _ _ e₃ in
    let (cores, partitions) = and_both _ _ e₂ in
    record {
      cores = eqb-true _ _ cores;
      partitions = eqb-true _ _ partitions;
      tasks = eqb-true _ _ tasks;
      fourth = eqb-true _ _ fourth;
      figure = λ k low high. eqb-true _ _ (every_member _ figures (up_to_has 15 k low high));
      set = λ p low high. eqb-true _ _ (every_member _ sets (up_to_has a.cores p low high));
    }

pub worsened : (older newer : Table) → worsens older newer ≡ true → Worsened older newer
unfolding worsens
worsened older newer e =
    let (board, tasks) = and_both _ _ e in
    record {
      board = alike older newer board;
      task = λ k low high. raised _ _ (every_member _ tasks (up_to_has older.tasks k low high));
    }
