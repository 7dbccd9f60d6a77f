-- The laws of messages, a file each; other crates may cite them.
pub mod ByteTurns
pub mod Halves
pub mod Walks
pub mod RangeTurns
pub mod Rows
pub mod Reading
pub mod Writing
pub mod Determined
pub mod Lent
