-- The figure of a row that has a name. Assumes nothing.
use Rattle.std.specs.Prelude.{ℕ}
use Rattle.rules.specs.Timing as Row
use Rattle.cycles.specs.declared.Timing.{Timing}
use Rattle.cycles.specs.declared.Timing.TheVariants.{Tck, Trp, Trcd, Cl, Wl, Bl, Twtr, Twr, Trrd, Tfaw, Tras, Trtp, Trtrs, Ncols, Ncap}

abbrev pub named : Timing → Row.Row → ℕ
named Tck row = Row.tCK row
named Trp row = Row.tRP row
named Trcd row = Row.tRCD row
named Cl row = Row.CL row
named Wl row = Row.WL row
named Bl row = Row.BL row
named Twtr row = Row.tWTR row
named Twr row = Row.tWR row
named Trrd row = Row.tRRD row
named Tfaw row = Row.tFAW row
named Tras row = Row.tRAS row
named Trtp row = Row.tRTP row
named Trtrs row = Row.tRTRS row
named Ncols row = Row.Ncols row
named Ncap row = Row.Ncap row
