pub mod Codes
pub mod Notes
pub mod Places
pub mod Broken
pub mod Checks
