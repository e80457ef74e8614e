-- What the contracts of this crate say, in the words of the claims.
--     Judged   all tasks of a table, fresh; and of a newer table from the older bounds
pub mod Judged
