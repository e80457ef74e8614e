-- The laws that the proofs of this crate cite, and those of callers.
--     OnTime  where no start is late, each is on time
pub mod OnTime
