pub mod Text
pub mod Output
pub mod Wrote
pub mod Turned
