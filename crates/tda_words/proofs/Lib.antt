pub mod Supplies
pub mod Worked
