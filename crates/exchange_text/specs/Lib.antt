-- The definitions of exchange_text, a file each.
pub mod Fronts
