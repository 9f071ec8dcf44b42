pub mod Places
pub mod Marks
