pub mod Delimited
