pub mod Plans
pub mod Order
pub mod Faults
pub mod Refusals
pub mod Meaning
pub mod Enumeration
pub mod Trims
pub mod ShortLists
