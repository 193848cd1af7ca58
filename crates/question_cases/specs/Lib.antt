-- The texts that the program compares.
pub mod Cases
