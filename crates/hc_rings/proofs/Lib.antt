pub mod Items
pub mod Prefixes
pub mod Whole
pub mod lemmas
