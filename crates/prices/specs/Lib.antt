-- What the crate's contracts cite beside the rules.
--     Costs    prices as numbers
pub mod Costs
