pub mod Faults
pub mod Filling
pub mod Lent
pub mod Results
pub mod Spelled
pub mod Steps
pub mod Surveys
pub mod lemmas
mod Zeros
