-- The laws of text_bytes, a file each; other crates may cite them.
pub mod Decimals
pub mod Words
pub mod Spelling
pub mod Pieces
pub mod RoundTrip
