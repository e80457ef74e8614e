-- Refusals and verdicts as numbers. Assumes nothing.
use Rattle.std.specs.Prelude.{cond, ℕ, ◌+◌, ◌*◌, ◌^◌}
use Rattle.rules.specs.declared.Refusal.{Refusal}
use Rattle.rules.specs.Results.{Salvaged}
use Rattle.rules.specs.declared.Delay.{Delay}
use Rattle.rules.specs.declared.Delay.TheVariants.{Request, Job}
use Rattle.rules.specs.declared.Verdict.{Verdict}
use Rattle.rules.specs.declared.Verdict.TheVariants.{Holds, Misses}
use Rattle.rules.specs.Chain.{is_accepted}

-- RYB_SHORT_OUTPUT (RULES 9.3)
abbrev pub too_short : ℕ
too_short = 255

-- number and place in one, from which RYB_NUMBER and RYB_PLACE take them; 0 where nothing is refused
abbrev pub code_of : Refusal → ℕ
code_of r = cond (is_accepted r) 0 (r.number + 256 * r.place)

-- RULES 10.3: what a salvage tells in one, from which RYB_PROMISED, RYB_KEPT, RYB_STOPPED and RYB_LENGTH take it
unfoldable pub salvage_code : Salvaged → ℕ
salvage_code r = code_of r.refusal + 65536 * r.promised + 2 ^ 24 * r.kept + 2 ^ 32 * r.stopped + 2 ^ 40 * r.length

-- RYB_HOLDS_BY_REQUEST and RYB_HOLDS_BY_JOB
abbrev pub delay_number : Delay → ℕ
delay_number Request = 1
delay_number Job = 2

-- RYB_MISSES, or by which delay it holds
abbrev pub by_number : Verdict → ℕ
by_number Misses = 0
by_number (Holds bound by) = delay_number by
