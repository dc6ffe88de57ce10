-- One event over clock, modes and ports.
pub mod Turned
