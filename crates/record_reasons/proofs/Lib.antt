-- The laws by which the fault that is named is the first, and each reason the true one, a file each.
pub mod Seeking
pub mod AtFault
pub mod Reasoning
pub mod Answering
mod SeekingOut
