pub mod Values
pub mod Notes
pub mod Marks
pub mod Checks
