-- A list of events over clock, modes and ports.
pub mod Stepped
