mod Written
mod Collected
mod Passing
mod Packing
mod Placing
mod Meaning
mod Joined
mod Bare
mod Alone
mod Ready
pub mod Blocks
pub mod Small
pub mod Through
pub mod Together
pub mod Wrote
pub mod lemmas
