-- The laws that the functions' proofs cite, and those that callers do.
--     Gathered    the costs of a core, as a loop gathers them
--     Bounds      how large the figures and the weights get
pub mod Gathered
pub mod Bounds
