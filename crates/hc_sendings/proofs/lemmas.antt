-- Lemmas that the crates above cite, a file for each subject.
pub mod Listed
pub mod Inserted
pub mod PartTexts
pub mod Whole
pub mod Dues
pub mod Marked
pub mod Forgets
pub mod Rewritten
pub mod FewWrites
pub mod Ended
pub mod Resent
pub mod Sent
pub mod Awaits
pub mod UnderWay
