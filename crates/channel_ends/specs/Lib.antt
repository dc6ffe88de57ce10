-- What the contracts of refusal 25 cite besides the model: pieces of its tests. Definitions alone: nothing is assumed.
pub mod Pieces
