-- What the contracts of this crate cite beside the rules.
--     Unjudged  starts that come too late
pub mod Unjudged
