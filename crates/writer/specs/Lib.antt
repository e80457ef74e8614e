-- What writing promises.
--     Answers  the answer with the buffer's bytes afterwards
pub mod Answers
