-- What the contracts say of the figures at a term.
pub mod Figures
