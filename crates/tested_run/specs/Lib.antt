-- A list carried out.
pub mod Carried
