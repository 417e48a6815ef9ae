-- What the crates above cite, a file a subject.
pub mod Datagrams
pub mod Opening
pub mod Readings
pub mod Replaced
pub mod Returns
pub mod Spelling
pub mod Texts
