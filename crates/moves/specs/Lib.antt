-- What a channel's move does to the ports.
pub mod Moved
