-- What the values of the evidence say, and what the two calls promise of them.
pub mod Evidence
