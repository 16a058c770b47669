pub mod Rings
pub mod Tables
