pub mod Laws
pub mod Unique
pub mod GivenStates
pub mod Isolation
