pub mod Load
pub mod Settled
