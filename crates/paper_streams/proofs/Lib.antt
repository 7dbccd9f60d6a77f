-- What is proved of whole streams: they read back, and what is not whole is told.
pub mod StreamLaws
pub mod WholeOnly
pub mod WholeAlone
