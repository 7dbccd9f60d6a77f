-- The definitions of exchange_protocol, a file each.
pub mod Exchange
pub mod Scan
pub mod ExchangeCases
