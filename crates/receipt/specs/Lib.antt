-- What the contracts of this crate cite beside the rules, and what is proved of it.
--     Status   the number with which a program that writes a receipt ends, and what it says
pub mod Status
