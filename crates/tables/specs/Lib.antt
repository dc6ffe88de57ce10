-- What the contracts of the tables' readers cite besides the model: where a run of records ends, how many records of each kind there are,
-- and the paper's numbers for the cases of an enum and for a decoded row. Definitions alone: nothing is assumed.
pub mod Layout
pub mod Runs
pub mod Shown
