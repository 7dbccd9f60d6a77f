-- The definitions of night_serve, a file each.
pub mod Serving
pub mod Tables
