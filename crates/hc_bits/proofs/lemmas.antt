-- Lemmas that the crates above cite, a file for each subject.
pub mod Bits
pub mod Places
