-- The test of an own port.
pub mod Own
