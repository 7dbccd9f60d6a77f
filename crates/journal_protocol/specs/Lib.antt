-- The definitions of the journal, a file each: an entry, a journal's bytes and what is found in any bytes, which lines
-- are kept, what recovery makes of any bytes, what is proved of it, and figures that pin them.
pub mod Entries
pub mod Journal
pub mod Lines
pub mod Recovery
pub mod Holds
pub mod JournalCases
pub mod RecoveryCases
