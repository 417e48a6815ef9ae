pub mod AtOnce
pub mod Ends
pub mod Kept
pub mod Lists
pub mod Refusals
pub mod Seatings
pub mod Takings
pub mod Waiting
pub mod lemmas
mod Held
mod Learnt
mod Looked
mod Made
mod Posted
mod Seated
mod OneThreadSeatings
