-- What the crate's contracts cite beside the rules.
--     Shows    bits and figures that are a table's
pub mod Shows
