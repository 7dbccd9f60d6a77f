-- The definitions of exchange_serve, a file each.
pub mod Rows
