-- The definitions of messages to members (W-212), from the byte to the record, then the tables that pin them.
pub mod Bytes
pub mod Fields
pub mod Messages
pub mod OwnBytes
pub mod Records
pub mod Broadcast
pub mod PinnedMessages
pub mod PinnedFields
pub mod PinnedRecords
pub mod PinnedBroadcast
