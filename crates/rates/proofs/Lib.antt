-- The laws that the proofs of the rate rules share: the statics, the choice of the volatility.
pub mod Statics
pub mod Volatilities
