pub mod Changes
pub mod Edits
pub mod Laws
pub mod Rows
pub mod Index
pub mod Room
pub mod inner
