-- What the comparisons' contracts cite beside the rules and `changes`.
--     Agrees       no figure is at fault exactly where the rules say that the newer table is the older one worsened
pub mod Agrees
