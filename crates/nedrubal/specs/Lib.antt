-- The definitions of nedrubal, a file each.
pub mod InOrder
