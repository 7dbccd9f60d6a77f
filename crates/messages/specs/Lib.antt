-- The definitions of messages, a file each.
pub mod FieldRoom
pub mod KindRows
pub mod Promises
