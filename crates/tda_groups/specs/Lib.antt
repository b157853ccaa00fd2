pub mod Sources
pub mod Order
pub mod Chains
pub mod Tree
