pub mod Parts
pub mod Sections
pub mod Fronts
pub mod Digits
pub mod Arguments
pub mod EditArguments
pub mod MemoryArguments
pub mod ManyTasks
