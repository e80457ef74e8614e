-- What the contracts about plain numbers cite beside the rules.
--     Codes  refusals and verdicts as numbers
pub mod Codes
