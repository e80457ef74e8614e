-- The laws that callers cite.
--     Bounds    how large the prices get
pub mod Bounds
