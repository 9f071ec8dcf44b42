pub mod Search
pub mod Stepped
pub mod Linked
pub mod Told
pub mod Turns
