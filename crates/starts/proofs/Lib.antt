-- What proofs stand on, of this crate and of `after`.
--     Mapped   an array mapped
--     Column   a column filled place by place, as `after` fills one
pub mod Mapped
pub mod Column
