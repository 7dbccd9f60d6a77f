-- What is proved of journals, a file each; other crates may cite it.
pub mod EntryLaws
pub mod JournalLaws
pub mod KeptLaws
pub mod RecoveryLaws
