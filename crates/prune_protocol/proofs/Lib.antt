-- What is proved of pruning, a file each.
pub mod Records
pub mod Tables
pub mod Answers
pub mod Asked
pub mod Pruned
