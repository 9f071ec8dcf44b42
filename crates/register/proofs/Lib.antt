pub mod Trees
pub mod Entered
pub mod Fields
