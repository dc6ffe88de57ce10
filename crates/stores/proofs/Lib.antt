pub mod Lists
pub mod Slots
pub mod Laws
