-- What follows from the rules of salvaging (RULES 7.7, 7.8).
--     Leading  how many pass a test before the first that does not
--     Marked   a fourth byte with bit 1 set
--     Found    a task with a fault, as 9 to 11 find it
--     Sound    a sound record, as code finds it
--     Kept     the kept records, and that their table is accepted
--     Parts    lists that agree in a part
--     CutParts what a cut leaves of a file
pub mod Leading
pub mod Marked
pub mod Found
pub mod Sound
pub mod Kept
pub mod Parts
pub mod CutParts
