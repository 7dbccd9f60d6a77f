-- What asking why is promised to answer, a file each.
pub mod RowFaults
pub mod Reasoned
pub mod Whys
pub mod FirstOut
