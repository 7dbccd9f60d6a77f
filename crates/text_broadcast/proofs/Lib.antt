-- The laws of text_broadcast, a file each; other crates may cite them.
pub mod Sending
