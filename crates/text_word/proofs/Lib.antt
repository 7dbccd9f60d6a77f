-- The laws of text_word, a file each; other crates may cite the public ones.
pub mod Words
mod WordLoops
mod Items
mod Leading
