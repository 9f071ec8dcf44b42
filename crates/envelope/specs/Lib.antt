pub mod Places
pub mod Faults
