pub mod Appends
pub mod Rows
