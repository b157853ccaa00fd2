pub mod Places
pub mod Spots
pub mod Faults
pub mod Measurements
