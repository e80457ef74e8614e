-- The demands of specs/ hold. What the proofs stand on, in the order of a file's parts:
--     ByteSums   the two sums of a trailer
--     Codes      a number in k bytes, and a task in a record
--     Places     the parts of a file and where each row of them stands
--     Whole      what refusals 1 to 4 leave of a file
--     Damage     a file that was cut or altered did not come whole
--     FromFile   the table of a file's first records has its bytes; that of a whole file is written as that file
--     Widths     every figure of an accepted table fits its field
--     FromTable  the file of an accepted table is whole and gives that table
--     Cleared    a table and the same table cleared meet the same refusals
--     Numbers    which refusals the checks of a file and of a table give
--     NoRefusal  where nothing is refused, number and place are 0
--     Parts      reading in its two parts
--     Files      the demands on table files
pub mod ByteSums
pub mod Codes
pub mod Places
pub mod Whole
pub mod Damage
pub mod FromFile
pub mod Widths
pub mod FromTable
pub mod Cleared
pub mod Numbers
pub mod NoRefusal
pub mod Parts
pub mod Files
