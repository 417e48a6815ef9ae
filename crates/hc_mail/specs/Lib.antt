pub mod Contents
pub mod Rule
pub mod Ends
pub mod Images
pub mod Posts
