-- The contracts of the public calls: one predicate for each, which settles result, state and every lent byte for every input.
pub mod Shown
pub mod Meets
pub mod Given
