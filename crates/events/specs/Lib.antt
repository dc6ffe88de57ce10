-- What the code's values show of the model's events and answers.
pub mod Shown
