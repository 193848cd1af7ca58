pub mod Agreement
pub mod Fragments
pub mod Progressions
pub mod Ranges
pub mod Places
pub mod Overlaps
pub mod Periods
pub mod Laws
