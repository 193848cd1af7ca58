-- The plain book of a shelf, and its law.
pub mod Calls
pub mod Runs
pub mod Laws
