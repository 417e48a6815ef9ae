-- Lemmas that the crates above cite, a file for each subject.
pub mod Arriving
pub mod BlockSizes
pub mod Crossing
pub mod Parts
pub mod PostFaults
