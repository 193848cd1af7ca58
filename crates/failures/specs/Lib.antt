-- What is written of a failure.
pub mod Sentences
