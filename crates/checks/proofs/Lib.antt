-- Laws of the checks.
--     Counts      counts within their limits
pub mod Counts
