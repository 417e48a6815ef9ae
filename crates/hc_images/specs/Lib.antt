pub mod Image
pub mod Moves
pub mod Packed
pub mod Pieces
pub mod Values
pub mod inner
