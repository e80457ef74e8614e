-- What the functions promise beside the rules, which say what a report is.
--     Counts  the report of what code answers
pub mod Counts
