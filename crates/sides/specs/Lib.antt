-- What the crate's contracts cite beside the rules.
--     Masks    the cores that are near or far, as bits
pub mod Masks
