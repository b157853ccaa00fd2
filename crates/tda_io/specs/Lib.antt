pub mod Outside
pub mod Memory
pub mod Rows
pub mod Table
pub mod Texts
pub mod Due
pub mod Csv
pub mod RowReading
