-- What the proofs of the runner's text share.
pub mod Laws
pub mod Handed
pub mod Said
pub mod Kit
pub mod Long
pub mod Turns
pub mod Answered
pub mod Printed
pub mod Examples
