pub mod Rows
pub mod PortAt
pub mod Alone
pub mod Marks
