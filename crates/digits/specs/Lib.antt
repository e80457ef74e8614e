-- What the contract of this crate cites beside the laws.
--     Spelled  a number in decimal digits
pub mod Spelled
