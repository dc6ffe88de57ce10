-- Test 29 of a state.
pub mod Tested
