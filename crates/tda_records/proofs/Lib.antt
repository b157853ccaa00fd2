pub mod Ranges
pub mod CellNumbers
pub mod RowLemmas
pub mod Gathering
pub mod HeaderLemmas
