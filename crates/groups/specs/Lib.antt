-- What the contracts about lent figures cite beside the rules.
--     Grouped  the tasks by their cores
--     Columns  their figures in lent arrays
pub mod Grouped
pub mod Columns
