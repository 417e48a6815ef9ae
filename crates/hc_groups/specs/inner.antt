-- Words that only contracts of private functions cite.
pub mod Turned
pub mod Line
