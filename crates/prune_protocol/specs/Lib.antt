-- The definitions of pruning, a file each: which lines may be left out, what is proved of the rest, and tables that pin
-- them.
pub mod Pruning
pub mod Holds
pub mod PruningCases
