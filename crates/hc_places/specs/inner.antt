-- Words that contracts of private functions alone use.
pub mod Walk
pub mod Parts
pub mod Overwritten
