-- The definitions of text_ask, a file each.
pub mod WithReasons
