pub mod Months
mod Read
