pub mod Divisors
pub mod Fractions
pub mod Multiples
pub mod Narrow
pub mod Products
pub mod Texts
