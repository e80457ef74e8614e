-- RULES 2.1: what the bits of a table's fourth byte say. Assumes nothing.
use Rattle.std.specs.Prelude.{ℕ, ◌+◌, Bool, cond, ltb}
use Rattle.rules.specs.declared.Table.{Table}
use Rattle.rules.specs.Cores.{bit}

-- RULES 2.1: bit 0, of a fourth byte and of a table's
unfoldable pub says_bus : ℕ → Bool
says_bus fourth = bit fourth 0

abbrev pub is_bus : Table → Bool
is_bus t = says_bus t.fourth

-- RULES 2.1: bit 1, of a fourth byte and of a table's
unfoldable pub says_salvaged : ℕ → Bool
says_salvaged fourth = bit fourth 1

abbrev pub is_salvaged : Table → Bool
is_salvaged t = says_salvaged t.fourth

-- RULES 7.8: bit 1 is set, and the other bits are as they were
unfoldable pub marked : ℕ → ℕ
marked fourth = cond (says_salvaged fourth) fourth (fourth + 2)

-- RULES 2.1: no bit but bits 0 and 1 is set
unfoldable pub fourth_allowed : ℕ → Bool
fourth_allowed fourth = ltb fourth 4
