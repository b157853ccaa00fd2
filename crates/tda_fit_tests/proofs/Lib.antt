pub mod Begun
mod Prison
