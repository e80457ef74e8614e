-- What an inner function promises. The rules say what a file holds.
--     Tasks  the tasks of a file, one after the other
pub mod Tasks
