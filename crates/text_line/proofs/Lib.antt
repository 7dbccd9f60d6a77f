-- The laws of text_line, a file each; other crates may cite the public ones.
mod Table
pub mod LineLoop
