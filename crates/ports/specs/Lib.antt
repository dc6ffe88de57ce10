-- What the lent arrays hold of each port.
pub mod Held
