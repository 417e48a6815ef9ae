pub mod Numbered
pub mod Turns
pub mod Declaring
mod Checks
pub mod Openings
pub mod Outcomes
pub mod Starved
pub mod Grown
pub mod VariablePlaces
pub mod Served
pub mod Shown
pub mod Proposed
pub mod Written
pub mod Programming
pub mod Ending
pub mod Machines
pub mod Cycling
pub mod Posting
