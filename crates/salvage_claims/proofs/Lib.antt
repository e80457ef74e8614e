-- The demands of specs/ hold. What the proofs stand on, in the order of its parts:
--     MarkedPlaces   bit 1 of the fourth byte moves nothing in a file
--     Passed         what is known where salvaging is not refused, and back
--     SalvagedTable  its file is read back as it, and has the cut file's bytes
--     NewFile        so what salvaging gives is that file
--     Counts         how many records are kept, and why no more
--     Salvaging      the demands on salvaging, with what a refused one gives
-- and of a file that was cut
--     Faultless      no record of an accepted file is at fault
--     Fitting        which of its records fit
--     Cut            every record that fits is kept
-- and beside them
--     NotJudged      no salvaged table is judged
pub mod MarkedPlaces
pub mod Passed
pub mod SalvagedTable
pub mod NewFile
pub mod Counts
pub mod Salvaging
pub mod Faultless
pub mod Fitting
pub mod Cut
pub mod NotJudged
