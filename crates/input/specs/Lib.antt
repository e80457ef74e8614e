-- What the contract of `front` cites beside the rules.
--     StandsFor  what the front of an input says of the whole input
pub mod StandsFor
