pub mod Collecting
pub mod Verdicts
