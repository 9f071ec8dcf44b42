pub mod FirstLine
pub mod Laws
pub mod Enough
