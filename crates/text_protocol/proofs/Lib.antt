-- The laws of text_protocol, a file each; other crates may cite them.
pub mod Variants
pub mod Filling
pub mod Reading
pub mod Silence
pub mod KindLaws
