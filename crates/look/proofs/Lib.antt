pub mod Reading
pub mod Bytes
pub mod Passing
pub mod Turning
pub mod Within
pub mod Looking
