-- The definitions of bonds (W-206), then the tables that pin them.
pub mod BondNumbers
pub mod Bonds
pub mod BondCases
pub mod PinnedBonds
