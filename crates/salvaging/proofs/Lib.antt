-- What the proofs of the functions stand on.
--     Links  the refusals of salvaging in their order, and what is given where there is none
pub mod Links
