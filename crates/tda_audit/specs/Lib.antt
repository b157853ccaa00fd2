pub mod Arcs
pub mod Certified
pub mod Verdicts
pub mod Fitted
pub mod Answers
pub mod Options
pub mod Trees
pub mod Prices
