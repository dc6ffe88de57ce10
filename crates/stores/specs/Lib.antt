-- What one store holds, and what its operations do to it.
pub mod Ring
