-- What the contracts of this crate cite beside the rules, and what is proved of it.
--     Status   the number with which a program that lists a file ends
--     Tied     what the number says: of the listing, and of the tasks' bounds
pub mod Status
pub mod Tied
