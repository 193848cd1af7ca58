-- The worked examples: what an example is, the strips, a file for each subject, and the table.
pub mod Examples
pub mod Strips
pub mod Agreement
pub mod Places
pub mod Overlaps
pub mod Periods
pub mod Shelf
pub mod Jobs
pub mod Table
