-- The laws of text_input, a file each; other crates may cite them.
pub mod InputLoops
pub mod Lines
