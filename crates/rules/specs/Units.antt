-- RULES 2.6: DRAM cycles and picoseconds, two types. Assumes nothing.
use Rattle.std.specs.Prelude.{ℕ, ◌+◌, ◌*◌}
use Rattle.rules.specs.declared.Cycles.{Cycles}
use Rattle.rules.specs.declared.Picos.{Picos}
use Rattle.rules.specs.Timing.{Row, tCK}

abbrev pub cycles : ℕ → Cycles
cycles n = record { 0 = n }

abbrev pub ps : ℕ → Picos
ps n = record { 0 = n }

infixl 60 ◌⊕◌
abbrev pub ◌⊕◌ : Cycles → Cycles → Cycles
a ⊕ b = cycles (a.0 + b.0)

-- RULES 2.6: the one passage from the first to the second
unfoldable pub in_time : Row → Cycles → Picos
in_time w c = ps (c.0 * tCK w)
