-- The ranges that the contracts of whole-number arithmetic ask for, and laws for those who call it.
pub mod Chunks
pub mod EveryLaws
pub mod LentLaws
pub mod Remainders
pub mod RootBits
pub mod RootInputs
pub mod SignedLaws
pub mod StoreLaws
pub mod Wide
pub mod Within
