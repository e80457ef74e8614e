-- The three points of docs/CLAIMS.md, said of the rules' own definitions: a record is a demand, and its fields are the clauses. These are the sentences
-- to hold against the points; that they hold is proved in proofs/, which can be skipped. What they say of files is in `file_claims`. The crate `mission` says the
-- main ones of the code itself.
--     Refused    point 1: what a refused operation gives
--     Point2     what a verdict says, of one task and of all, from any start; and that a start errs only to the safe side
--     Point3     a newer table judged from the older one's bounds
--     AnyMemory  points 2 and 3 over any memory, which the two before are cases of
--     Sets       beside the points: the sets of a bus table have no effect
--     NoRun      beside the points: what a window of 0 costs, against the rule of before
pub mod Refused
pub mod Point2
pub mod Point3
pub mod AnyMemory
pub mod Sets
pub mod NoRun
