-- What is known of an accepted file, and the table that it is. Assumes nothing.
use Prim.Native.Nat.{ℕ, ◌≤◌}
use mathlib.Core.Path.{◌≡◌, refl}
use mathlib.Core.Bool.{true}
use mathlib.Core.List.{List}
use lib.ListN.{length}
use Rattle.rules.specs.Chain.{is_accepted}
use Rattle.rules.specs.File.{records_at, cores_in, tasks_in, form_in, decode}
use Rattle.rules.specs.Operations.{check_file}
use Rattle.fields.specs.Places.{Sized, sets_of, figures_in}
use Rattle.fields.proofs.Steps.{sets_end}
use Rattle.file.proofs.Reading.{file_sized, file_counts}

module _ (s : List ℕ) where
  pub tasks_are : (decode s).tasks ≡ tasks_in s
  unfolding decode
  tasks_are = refl

  pub cores_are : (decode s).cores ≡ cores_in s
  unfolding decode
  cores_are = refl

  pub fourth_is : (decode s).fourth ≡ form_in s
  unfolding decode
  fourth_is = refl

  pub sets_are : (decode s).sets ≡ sets_of s
  unfolding decode
  sets_are = refl

  pub timing_is : (decode s).timing ≡ figures_in s 4 15
  unfolding decode
  timing_is = refl

  -- every byte of the header is there, and of the sets; its cores and tasks have room in a table; and every record is there
  module _ (e : is_accepted (check_file s) ≡ true) where
    pub header : 46 ≤ length s
    header = (file_sized s e).long

    pub few-cores : cores_in s ≤ 8
    few-cores = (file_counts s e).0

    pub few-tasks : tasks_in s ≤ 32
    few-tasks = (file_counts s e).1

    pub sets-there : records_at (form_in s) (cores_in s) ≤ length s
    sets-there = sets_end s (file_sized s e)

    pub sized : Sized s
    sized = file_sized s e

pub ruleset known = (tasks_are, cores_are, fourth_is, sets_are, timing_is, header, few-cores, few-tasks, sets-there, sized)
