-- To unfold `every_rule` is to unfold every rule, so that figures compute. Assumes nothing.
use Rattle.equation.specs.Rounds as rounds
use Rattle.rules.specs.Timing.{ranges, ddr3_1333}
use Rattle.rules.specs.Units.{in_time}
use Rattle.rules.specs.Delays.{pre, act, readwrite, hit, reopen, conf, run, window}
use Rattle.rules.specs.Tasks.{releases, latest, tasks_on, higher, elsewhere, arrivals}
use Rattle.rules.specs.Cores.{share, near, far}
use Rattle.rules.specs.Kinds.{says_bus, says_salvaged, marked, fourth_allowed}
use Rattle.rules.specs.Dram.{crossing, conflict, inter, intra, RD, jinter, JD}
use Rattle.rules.specs.Bus.{slot_in, other_cores, bus_RD, bus_JD}
use Rattle.rules.specs.Board.{dram_memory, bus_memory, memory_of}
use Rattle.rules.specs.Response.{preemption, request, job, delay, response, decided, F, decider}
use Rattle.rules.specs.Judgement.{lowest, rounds_of, judge}
use Rattle.rules.specs.Order.{same_board, worse_task, worsens}
use Rattle.rules.specs.Chain.{first_from}
use Rattle.rules.specs.Refusals.{counts_fault, figure_fault, relations_hold, relation_fault, check_timing, bus_fault, check_bus, check_row, set_fault, core_fault, time_fault, request_fault, board_refusal, tasks_refusal, check_board, check_tasks, check_table, asked_fault, late_start, high_start, check_judged, check_start, check_one, check_all}
use Rattle.rules.specs.File.{sets_at, records_at, record_size, record_at, file_length, record_bytes, record_task, running_sum, trailer, body, encode, record_in, check_trailer, check_whole, decode}
use Rattle.rules.specs.Salvage.{ends_early, reaches, task_fault, is_sound, leading, kept, stopped, salvaged_table, check_salvage, salvaging, salvaged_out}
use Rattle.rules.specs.Operations.{taking, reading, check_file, check_to_judge, read_to_judge, check_view, viewing, check_write, writing, out_after, judge_one, answers_from, judge_all, older_bound, older_bounds, check_both, faulty_of, is_carried, rejudging}
use Rattle.laws.specs.Idioms.{from, number_in, bytes_of}
use Rattle.laws.specs.Decimal.{decimal}
use Rattle.rules.specs.Listing.{delay_word, verdict_words, task_line, table_lines, refused_line, table_text, listing, receipt, report}
use Rattle.rules.specs.Figures.{ddr3_cap, board, apart2, apart4, sharing2, sharing_and_apart, three_on, three, listed, listed_text, two_solutions, bus_row, on_bus, sealed, altered3, border, salvage_report, new_file, judged_text, judged_line}
use Rattle.rules.specs.Further.{chain, own-requests, wide, late, row_with, small, small_with, two, with_fourth, one}

unfoldable pub every_rule : Unit {0}
unfolding from number_in bytes_of ranges ddr3_1333 in_time pre act readwrite hit reopen conf run window releases latest tasks_on higher elsewhere share near far crossing conflict inter intra RD arrivals jinter JD says_bus says_salvaged marked fourth_allowed slot_in other_cores bus_RD bus_JD dram_memory bus_memory memory_of preemption request job delay response decided F decider rounds.climb rounds.solve lowest rounds_of judge same_board worse_task worsens first_from counts_fault figure_fault relations_hold relation_fault check_timing bus_fault check_bus check_row set_fault core_fault time_fault request_fault board_refusal tasks_refusal check_board check_tasks check_table asked_fault late_start high_start check_judged check_start check_one check_all sets_at records_at record_size record_at file_length record_bytes record_task running_sum trailer body encode record_in check_trailer check_whole decode taking reading check_file check_to_judge read_to_judge check_view viewing check_write writing out_after judge_one answers_from judge_all older_bound older_bounds check_both faulty_of is_carried rejudging ends_early reaches task_fault is_sound leading kept stopped salvaged_table check_salvage salvaging salvaged_out decimal delay_word verdict_words task_line table_lines refused_line table_text listing receipt report ddr3_cap board apart2 apart4 sharing2 sharing_and_apart three_on three listed listed_text two_solutions bus_row on_bus sealed altered3 border salvage_report new_file judged_text judged_line chain own-requests wide late row_with small small_with two with_fourth one
every_rule = tt
