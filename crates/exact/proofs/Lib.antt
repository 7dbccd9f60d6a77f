-- The arithmetic behind the functions on plain numbers, and that the root's answers stay the same (W-204).
pub mod Quotients
pub mod Long
pub mod RootTurn
pub mod RootSearch
pub mod Sign
pub mod SameRoot
