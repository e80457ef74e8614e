-- `list` meets its contract: what reading gives is what the listing is made of. Assumes nothing.
use native.Mathlib.Omega.{arith}
use Rattle.admit_file.proofs.WasToJudge.{table-judged}
use Rattle.listing.proofs.Listed.{listed-refused, listed-table}
use Rattle.listing.proofs.list.Goals as goal

pub list_table-requires : goal.list_table-requires
list_table-requires c = table-judged _ c.in-Ok.ensures

pub returns-in-Ok : goal.returns-in-Ok
returns-in-Ok c = rw (listed-table _ c.in-Ok.ensures) (record { given = c.list_table.ensures.given; file_len_bound = c.list_table.ensures.replicate_len_bound })

pub returns-in-Err : goal.returns-in-Err
returns-in-Err c = rw (listed-refused _ c.in-Err.ensures) (record { given = c.refused.ensures.given; file_len_bound = omega (arith, c.refused.ensures.number_len_bound) })
