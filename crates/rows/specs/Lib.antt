-- Rows, the strips that they write, the rounds, and what every shelf keeps.
pub mod Strips
pub mod Filing
pub mod Rounds
pub mod Blocks
pub mod Lawful
pub mod Laws
