-- The laws that the proofs of the functions cite, and that the statement of specs/Tied.antt holds.
--     Decided  the status of a file, by what reading it gave
--     Texts    texts of lines, and their last letters
--     Listed   the status and the listing say the same
--     Bounds   the status says whether every task has a bound
--     Tied     both
pub mod Decided
pub mod Texts
pub mod Listed
pub mod Bounds
pub mod Tied
