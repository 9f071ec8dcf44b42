pub mod Headers
pub mod Turns
pub mod Sets
pub mod Walks
pub mod Refused
pub mod Number
