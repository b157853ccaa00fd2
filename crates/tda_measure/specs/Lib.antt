pub mod Noise
pub mod Measured
pub mod Steps
