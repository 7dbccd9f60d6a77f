-- The laws of text_evidence, a file each; other crates may cite them.
pub mod Shifting
