-- The definitions of text_answer, a file each.
pub mod Sizes
pub mod Answered
pub mod WhySizes
