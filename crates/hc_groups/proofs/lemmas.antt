-- What the crates above cite, a file a subject.
pub mod Accepted
pub mod CarriedOut
pub mod Concerned
pub mod Refusals
pub mod Edited
