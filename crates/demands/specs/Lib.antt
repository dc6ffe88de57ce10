-- What the demands say of the public calls and of the exported functions.
pub mod Told
pub mod Calls
pub mod WrongKernels
