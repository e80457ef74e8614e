-- What a walk over the tasks keeps: the first at fault of each kind, 9 to 11. Assumes nothing.
use Rattle.std.specs.Prelude.{ℕ, Bool, Option, None, Some}
use Rattle.std.specs.Option.{option_or}
use Rattle.std.specs.Bool.{then_some}
use Rattle.rules.specs.declared.Task.{Task}
use Rattle.rules.specs.declared.Refusal.{Refusal}
use Rattle.rules.specs.Chain.{accepted, refused, ◌or_else◌}
use Rattle.rules.specs.Refusals.{core_fault, time_fault, request_fault}
use Rattle.task_walk.specs.declared.Faults.{Faults}

-- the first place at fault: one that was seen before k, or k if it is at fault
unfoldable pub earliest : Option ℕ → ℕ → Bool → Option ℕ
earliest seen k fault = option_or seen (then_some fault k)

abbrev pub no_faults : Faults
no_faults = record { core = None; time = None; request = None }

unfoldable pub with_task : Faults → ℕ → ℕ → Task → Faults
with_task seen k cores i = record {
  core = earliest seen.core k (core_fault cores i);
  time = earliest seen.time k (time_fault i);
  request = earliest seen.request k (request_fault i);
}

-- number n with the place that was seen
abbrev pub placed : ℕ → Option ℕ → Refusal
placed n None = accepted
placed n (Some x) = refused n x

unfoldable pub told_by : Faults → Refusal
told_by seen = placed 9 seen.core or_else placed 10 seen.time or_else placed 11 seen.request
