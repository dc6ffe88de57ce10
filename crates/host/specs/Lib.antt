-- The contracts of the exported functions: the kernel's, over bytes.
pub mod Exports
