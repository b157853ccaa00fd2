pub mod RowLemmas
pub mod WrittenRows
pub mod Numerals
pub mod Once
pub mod TablesDetermined
