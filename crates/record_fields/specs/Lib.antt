-- What the contracts of the tests cite besides the model: pieces of the model's tests. Definitions alone: nothing is assumed.
pub mod Pieces
