pub mod Cuts
pub mod lemmas
