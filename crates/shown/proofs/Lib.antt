-- The laws that the proofs of the functions cite.
--     Shown   how many tasks a file shows, where a record starts, and where there is none
pub mod Shown
