-- The laws that other proofs cite, and what makes the theory of `equation` hold of an accepted table.
--     Reading     what an accepted file is known to be
--     Came        what refusals 1 to 4 leave of a file
--     ToJudge     a file that is to be judged
--     First       the first place at fault
--     Chain       a chain of refusals that gives none
--     Rows        the figures of an accepted row
--     Accepted    an accepted table is sound
--     SoundTasks  and so are its tasks
--     Weights     DRAM's job delay by core
--     Priced      the job delay at any prices
--     Releases    the releases of a task are a count
--     Memory      the response equation over any steady memory
--     Cases       points 2 and 3 of a task over any memory
--     Worsened    the test of a table worsened, taken apart
--     Alike       boards alike in their used places
--     Kept        the tasks of such tables, number by number
--     Dram        DRAM as a kind of board
--     Bus         a bus as a kind of board
--     Boards      any board's memory by its prices
--     Instance    the equation of an accepted table
--     Starts      the starts that are not refused
--     LentStarts  a judgement looks only at the starts of its tasks
--     Points      points 2 and 3 for tables
--     AllStarts   the starts of all tasks together
--     Again       a newer table has its fresh verdicts, carried or not
pub mod First
pub mod Chain
pub mod Rows
pub mod Accepted
pub mod Reading
pub mod Came
pub mod ToJudge
pub mod SoundTasks
pub mod Weights
pub mod Releases
pub mod Priced
pub mod Memory
pub mod Cases
pub mod Worsened
pub mod Alike
pub mod Kept
pub mod Dram
pub mod Bus
pub mod Boards
pub mod Instance
pub mod Starts
pub mod LentStarts
pub mod Points
pub mod AllStarts
pub mod Again
