pub mod Lists
pub mod Roles
pub mod Seats
pub mod Moves
pub mod Sending
