-- The walk over the key maturities, and the laws of figures between two of them and of a band's limits, that the
-- functions of this crate share.
pub mod Passed
pub mod Lines
pub mod Limits
pub mod Bits
pub mod SameRoot
pub mod Ordered
