-- The laws of the order in which an evaluation is judged, and of what it comes to, a file each.
pub mod Judging
pub mod Evaluations
