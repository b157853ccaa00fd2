pub mod Refusal
pub mod Verdicts
