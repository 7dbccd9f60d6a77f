-- How the call's answer is put together, and that its promise determines it.
pub mod Terms
pub mod Answers
pub mod Determined
