-- The laws of exchange_text, a file each; other crates may cite the public ones.
mod CellTurns
mod LineTurns
pub mod TextTurns
pub mod Determined
