-- Words that contracts of private functions alone use.
pub mod Blocks
pub mod Applied
pub mod Declaring
pub mod MovedBlocks
pub mod Prepared
pub mod RegisterBlocks
pub mod Shares
