-- What the limit rules are made of: the sides, the ranges that they ask for, their laws and how large a limit is.
pub mod Sides
pub mod LimitRanges
pub mod LimitLaws
pub mod LimitBounds
