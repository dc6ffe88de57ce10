pub mod Laws
pub mod Channels
