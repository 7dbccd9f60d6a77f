-- The proofs of the demands and of that order, each file after those that it stands on.
pub mod InterestCarried
pub mod Sequences
pub mod Asks
pub mod Kept
pub mod Histories
pub mod Known
pub mod Figures
pub mod Bands
pub mod Carried
pub mod SlotHistories
pub mod Order
pub mod Demands
pub mod Beside
pub mod Inside
