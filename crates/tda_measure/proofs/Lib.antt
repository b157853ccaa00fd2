pub mod Lists
pub mod Walking
pub mod Outcomes
pub mod ClassSums
pub mod Places
pub mod Variances
