pub mod Numbers
pub mod Runs
pub mod Lists
pub mod lemmas
