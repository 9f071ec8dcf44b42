pub mod Library
pub mod Loops
pub mod Search
pub mod Where
pub mod Digits
pub mod Times
