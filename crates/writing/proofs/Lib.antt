pub mod Over
pub mod Laws
pub mod Delivered
pub mod Numbers
pub mod Segments
