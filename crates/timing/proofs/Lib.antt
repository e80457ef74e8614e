-- Laws of the checks of a row.
--     Relations   the relations as comparisons
--     Bus         a figure of a bus's row, as code tests it
pub mod Relations
pub mod Bus
