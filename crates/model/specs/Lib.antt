-- The model of document 01, in its order. Each file has one section of it; a reader with 01 in the other hand starts at Tables.
-- Definitions alone: nothing is assumed, and nothing here depends on code or on a proof.
pub mod Words
pub mod Tables
pub mod Load
pub mod State
pub mod Ranged
pub mod Events
pub mod Answers
pub mod Services
pub mod Step
pub mod Run
pub mod Walk
pub mod Flow
