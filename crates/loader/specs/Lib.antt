-- What the contracts of the loader cite besides the model: the paper's numbers for the cases of a verdict, and what the search for a fault finds.
-- Definitions alone: nothing is assumed.
pub mod Pieces
pub mod Shown
