-- Lemmas that the crates above cite, a file for each subject.
pub mod Configured
pub mod Differing
pub mod PlaceNames
pub mod Replaced
pub mod StoredBlocks
pub mod Unmoved
pub mod AreaKeys
pub mod Elements
pub mod TableRows
