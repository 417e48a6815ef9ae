pub mod Answered
pub mod Leading
