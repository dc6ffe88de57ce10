pub mod LookUp
pub mod LikeRow
pub mod Made
pub mod Found
