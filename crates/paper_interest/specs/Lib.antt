-- The definitions of the interest side (W-201), then the tables that pin them.
pub mod Interest
pub mod InterestExact
pub mod InterestCases
pub mod PinnedInterest
pub mod PinnedRepoSquares
