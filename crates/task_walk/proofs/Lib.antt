-- Laws of the walk.
--     Seen        a walk that keeps the first task at fault of each kind
pub mod Seen
