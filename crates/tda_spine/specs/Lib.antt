pub mod Counts
pub mod Index
pub mod Indexed
pub mod Judged
pub mod Rows
pub mod Sound
pub mod Kept
pub mod Largest
