pub mod Writers
pub mod Received
pub mod Surveys
pub mod Entries
