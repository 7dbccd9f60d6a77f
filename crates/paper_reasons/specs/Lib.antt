-- Why an evaluation is answered as it is (W-207), a file each; the files named Pinned have tables.
pub mod Reasons
pub mod Faults
pub mod Figures
pub mod AdmissionFaults
pub mod Why
pub mod Truth
pub mod Words
pub mod PinnedWords
pub mod PinnedReasons
pub mod PinnedFigures
pub mod PinnedAdmissions
