-- What the steps of the checks stand for.
--     Ranges  a figure outside its range, for any two limits
pub mod Ranges
