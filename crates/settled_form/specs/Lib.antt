-- A state's settled form.
pub mod Settled
