pub mod Ending
pub mod Files
pub mod Asked
pub mod Survey
pub mod Accepted
pub mod Reading
