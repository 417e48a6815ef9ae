-- Lemmas that the crates above cite, a file for each subject.
pub mod Fillings
pub mod Lacking
pub mod Widths
