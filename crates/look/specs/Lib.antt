pub mod Bytes
pub mod Passing
pub mod Looking
