-- The laws that the comparisons' proofs cite.
--     Told     a change is told exactly where the newer table is not the older one worsened
pub mod Told
