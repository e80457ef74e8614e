-- What the proofs of the functions stand on.
--     Numbers  a number by its bytes, as the library reads it
--     Parts    a part of lent bytes written and given back
pub mod Numbers
pub mod Parts
