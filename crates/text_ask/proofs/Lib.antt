-- The laws of text_ask, a file each; other crates may cite them.
pub mod AtPlace
