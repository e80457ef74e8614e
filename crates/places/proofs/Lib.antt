-- What the proofs of the functions stand on.
--     Places  where records stand, one after the other, whatever their size
pub mod Places
