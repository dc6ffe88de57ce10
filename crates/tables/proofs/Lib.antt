pub mod Answers
pub mod Decoded
pub mod Places
pub mod Ranges
pub mod Searched
