pub mod Quarters
pub mod Hours
