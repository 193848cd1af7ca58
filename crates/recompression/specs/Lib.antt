-- What a table of rows holds, and what its methods answer and leave.
pub mod Buckets
pub mod Tables
pub mod Contents
pub mod InPlace
pub mod Settlements
pub mod Expansions
pub mod Codes
