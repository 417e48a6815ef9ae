-- Lemmas that the crates above cite, a file for each subject.
pub mod Counting
pub mod Registers
pub mod RanksDeclared
pub mod RanksGapless
pub mod RanksStanding
pub mod RanksMoved
