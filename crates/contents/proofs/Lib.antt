-- What the proofs of the functions stand on.
--     Steps  a board of too many cores; a place further in the tasks; the records before the end of the last
pub mod Steps
