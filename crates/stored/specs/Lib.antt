-- What the contracts about answers in lent outputs cite beside the rules.
--     Stored  answers in three outputs
pub mod Stored
