-- The layout of a state in a buffer.
pub mod Layout
