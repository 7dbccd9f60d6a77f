-- The laws of exchange_protocol, a file each; other crates may cite them.
pub mod Values
pub mod Decimals
pub mod Cells
pub mod Lines
pub mod Walk
pub mod Texts
pub mod ValidRows
