-- The laws that the functions' proofs cite.
--     Texts   a number's text, and how long any of them is
pub mod Texts
