pub mod Listing
pub mod Flow
