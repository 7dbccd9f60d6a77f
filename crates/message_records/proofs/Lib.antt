-- The laws of message_records; other crates may cite them.
pub mod Values
