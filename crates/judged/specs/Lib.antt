-- What the judgement of a file into three outputs answers.
--     JudgedFile  its refusal, and what the outputs hold afterwards
pub mod JudgedFile
