-- What the crates above cite, a file a subject.
pub mod Logical
pub mod Memories
pub mod Passed
pub mod Returned
pub mod Sizes
