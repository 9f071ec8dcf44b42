pub mod Cursor
pub mod Fields
pub mod Pieces
pub mod Library
