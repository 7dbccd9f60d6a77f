-- What the near test is made of.
pub mod Nearness
