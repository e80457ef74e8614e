-- A run of figures, stored place by place. Assumes nothing.
use mathlib.Core.Path.{◌≡◌}
use mathlib.Core.List.{map}
use lib.ListN.{length, take}
use lib.Seq.{sets}
use Rattle.laws.specs.Idioms.{joined, bytes_of}
use Rattle.encode.proofs.put_figures.Given as goal

abbrev pub invariant-loop-i : goal.invariant-loop-i
invariant-loop-i l = (length l.out ≡ length l.initial.out) × (l.out ≡ sets l.initial.out l.at (joined (map (bytes_of 2) (take l.i l.figures))))
