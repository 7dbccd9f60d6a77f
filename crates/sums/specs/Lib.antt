-- The definition of a sum (CRC-32), the steps that its table has, and the figures that pin it.
pub mod Sums
pub mod Steps
pub mod PinnedSums
