-- What is proved of messages (W-212), from the byte to the whole message, and of their refusals.
pub mod ByteLaws
pub mod FieldLaws
pub mod MessageLaws
pub mod Refusals
pub mod OwnBytes
pub mod WrittenBack
