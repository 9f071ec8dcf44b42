pub mod Over
pub mod Optional
