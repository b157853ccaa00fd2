pub mod Steps
pub mod Rows
pub mod Trace
pub mod Room
pub mod Size
pub mod Inside
