-- The laws that the functions' proofs cite.
--     Carrying   the ways in which two files are refused, or judged one after the other
--     Coded      the number of an answer to two files
pub mod Carrying
pub mod Coded
