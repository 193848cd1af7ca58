-- The proofs of the examples, a file for each subject.
mod Joins
mod Agreement
mod Places
mod Overlaps
mod Periods
mod Shelf
mod Jobs
