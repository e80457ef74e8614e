-- What the contracts cite beside the rules.
--     Counts  the counts of a table as bytes
pub mod Counts
