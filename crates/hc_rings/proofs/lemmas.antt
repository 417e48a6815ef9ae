-- Lemmas that the crates above cite, a file for each subject.
pub mod Ended
pub mod Written
pub mod Outputs
pub mod Results
pub mod Steps
pub mod Same
pub mod Crossing
