-- What the walk over the figures stands on.
--     Table   the table of limits is the rule's list
pub mod Table
