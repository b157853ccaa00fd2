pub mod Answers
pub mod Draws
pub mod Pieces
pub mod Outcomes
