pub mod Contents
pub mod Refused
pub mod Holding
pub mod Acts
