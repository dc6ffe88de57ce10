-- The number that a create must have.
pub mod Period
