pub mod Fraction
pub mod Whole
