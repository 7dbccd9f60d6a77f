-- The laws that the proofs of the level's rule share: the statics, the least rate.
pub mod Statics
pub mod Reach
