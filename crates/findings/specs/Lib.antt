pub mod Events
pub mod Steps
pub mod Remaining
pub mod Turns
