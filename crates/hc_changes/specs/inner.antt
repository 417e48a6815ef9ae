-- Words that contracts of private functions alone use.
pub mod Found
pub mod LineChanges
