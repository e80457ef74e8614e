-- What every promise of the house is: one that allows one result.
--     Exact    a row for each public operation
pub mod Exact
