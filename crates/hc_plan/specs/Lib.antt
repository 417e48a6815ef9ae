pub mod Configuration
pub mod Gone
pub mod Laws
pub mod Prepared
pub mod RegisterBlocks
pub mod Reports
pub mod Shares
pub mod inner
