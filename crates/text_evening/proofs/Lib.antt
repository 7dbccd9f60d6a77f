-- The laws of text_evening, a file each; other crates may cite them.
pub mod NoCall
pub mod OneMore
pub mod StreamedLaws
