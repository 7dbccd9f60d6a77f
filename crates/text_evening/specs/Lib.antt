-- The definitions of text_evening, a file each.
pub mod Evening
pub mod Streamed
pub mod EveningCases
