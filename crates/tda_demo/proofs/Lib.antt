pub mod Ranges
pub mod Rows
pub mod Nodes
pub mod PreorderRows
pub mod LeafCodes
pub mod BlockRows
pub mod NextWords
