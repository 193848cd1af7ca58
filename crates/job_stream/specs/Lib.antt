-- When a job over streams failed, and what that leaves.
pub mod Moments
