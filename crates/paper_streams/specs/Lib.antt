-- The definition of a whole stream, and the table that pins it.
pub mod Streams
pub mod Alone
pub mod PinnedStreams
