-- What the contracts of this crate cite beside the rules and `text`.
--     Rows   the lines of the tasks
pub mod Rows
