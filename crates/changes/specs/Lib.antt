-- What the contracts about changes cite beside the rules.
--     Difference   the first figure that keeps a newer table from being the older one worsened
pub mod Difference
