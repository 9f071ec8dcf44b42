pub mod Encoded
pub mod Choice
