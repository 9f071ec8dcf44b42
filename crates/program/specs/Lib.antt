pub mod Counts
pub mod Serving
