-- Facts that the answers of this crate use.
pub mod Firsts
