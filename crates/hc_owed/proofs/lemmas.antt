-- Lemmas that the crates above cite, a file for each subject.
pub mod Alike
pub mod TaskSums
pub mod SameTask
