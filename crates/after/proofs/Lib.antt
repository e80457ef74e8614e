-- The laws that the functions' proofs cite.
--     Either  the answers of a newer table after an older one, carried and fresh
pub mod Either
