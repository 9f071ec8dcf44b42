pub mod Fields
pub mod Trees
