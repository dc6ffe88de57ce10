-- What a state shows of the model's, test 29 of it, its settled form, the state at load, and the state of zeros.
pub mod Shown
