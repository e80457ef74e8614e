-- The laws that the proofs of the functions cite.
--     Lines  what is reported of a salvage is its report, and its line as code puts it together
pub mod Lines
