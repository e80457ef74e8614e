-- What the judgement of a newer file after an older one answers.
--     Files   its refusal and whose it is, what the outputs hold afterwards, and whether it starts from the older bounds
pub mod Files
