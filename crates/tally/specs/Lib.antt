-- What a tally counts, and what is printed of it.
pub mod Tallies
