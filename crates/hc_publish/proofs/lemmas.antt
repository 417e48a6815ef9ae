-- What the crates above cite, a file a subject.
pub mod Crossing
pub mod Openings
pub mod ShownCrossing
