-- What the contracts cite beside the rules.
--     Named  the figure of a row that has a name
pub mod Named
