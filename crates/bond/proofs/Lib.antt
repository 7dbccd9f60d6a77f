-- How large the figures become on the way to a limit, what the call's answer is put together from, and that its promise
-- determines it.
pub mod Sizes
pub mod Facts
pub mod Answers
pub mod Determined
