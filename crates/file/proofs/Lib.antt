-- What the proofs of the functions stand on, and those of callers.
--     Reading  a file that came whole, the figures taken out of it, and what an accepted file is known to be
pub mod Reading
