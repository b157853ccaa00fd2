pub mod Family
pub mod Nested
pub mod Counted
