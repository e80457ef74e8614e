-- Laws that belong to no one function.
--     Put      texts one after the other, and at the start of a lent buffer
pub mod Put
