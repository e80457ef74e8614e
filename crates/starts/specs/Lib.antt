-- What the contract of this crate cites beside the rules.
--     Starts    starts as numbers
pub mod Starts
