pub mod Editions
pub mod Chosen
