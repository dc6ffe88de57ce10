pub mod ByCode
