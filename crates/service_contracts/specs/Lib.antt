-- What a service at one port, a doer's act, and a partition's call do to the lent arrays.
pub mod Served
pub mod Did
pub mod Called
