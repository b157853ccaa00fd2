pub mod TrueTable
pub mod Tally
pub mod Agreement
pub mod Distance
