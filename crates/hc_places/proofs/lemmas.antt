-- Lemmas that the crates above cite, a file for each subject.
pub mod Ascends
pub mod Found
pub mod Layouts
pub mod Lines
pub mod DatagramUses
pub mod Once
pub mod Ranks
pub mod Rows
pub mod Same
pub mod Sorted
pub mod Swaps
pub mod Totals
pub mod Crossing
