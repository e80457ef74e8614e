-- The laws that the operation's proofs cite.
--     Whose      an answer about one of two tables, by what its check gave
--     Again      the order of refusals of a newer table after an older one
pub mod Whose
pub mod Again
