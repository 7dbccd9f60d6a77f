-- The laws that the proofs of the gateway's calls share.
pub mod InHand
pub mod Answers
