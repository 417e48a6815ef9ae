-- What the crates above cite, a file a subject.
pub mod Crossing
pub mod Bits
pub mod Entries
pub mod LaidOut
