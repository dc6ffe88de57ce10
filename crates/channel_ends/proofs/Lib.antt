pub mod ChannelEnds
pub mod Searched
