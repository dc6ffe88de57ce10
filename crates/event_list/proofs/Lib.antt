pub mod OneMore
pub mod Bytes
