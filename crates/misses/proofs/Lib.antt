-- Laws that belong to no one function.
--     Missed     the last line
pub mod Missed
