pub mod Rounding
pub mod Points
pub mod Settings
