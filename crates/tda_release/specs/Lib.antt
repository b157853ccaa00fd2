pub mod Certified
pub mod Texts
