-- The demands of specs/ hold.
--     Refused    what a refused operation gives
--     Point2     what a verdict says
--     Point3     a newer table judged from the older one's bounds
--     AnyMemory  points 2 and 3 over any memory
--     Sets       the sets of a bus table have no effect
--     Spared     where the rule of no row hit moves RD, and nothing else
--     NoRun      so no bound is later; what is claimed of that rule
pub mod Refused
pub mod Point2
pub mod Point3
pub mod AnyMemory
pub mod Sets
pub mod Spared
pub mod NoRun
