mod Rows
mod DemoRows
mod Dormitory
mod FivePersons
pub mod Sums
pub mod Tree
pub mod FitOrder
pub mod Releases
pub mod Shares
pub mod Attain
pub mod Exists
