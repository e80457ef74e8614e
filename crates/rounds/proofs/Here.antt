-- The task in place i of lent columns: what two jobs of each task cost it can be summed. Assumes nothing.
use Prim.Native.Nat.{ℕ, ◌<◌, zero-le}
use mathlib.Core.List.{List}
use Rattle.floors.specs.Floors.{Doubled, Fits}
use Rattle.own.specs.declared.Lent.{Lent}
use Rattle.own.specs.Own.{cost_at}
use Rattle.rounds.specs.Lent.{Judgeable}

pub fits_at : {l : Lent} (j : Judgeable l) (i : ℕ) → i < l.board.tasks → {doubled : List ℕ}
    → Doubled l.board.cores l.tasks.begins l.tasks.requests doubled → Fits l.board.cores (cost_at l i).weight doubled
fits_at j i here so =
    record {
      few = j.lots.few;
      each = λ q h. record { weight-high = ((j.ready i 0 here zero-le).fair.groups.each q h).weight-high; requests-high = (so.each q h).high };
    }
