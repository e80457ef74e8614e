-- What the contracts of F cite beside the rules.
--     Terms  the equation of one task from plain lists
pub mod Terms
