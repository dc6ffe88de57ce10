pub mod Unmade
pub mod Sweep
pub mod SetMode
