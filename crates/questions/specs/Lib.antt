-- What a question comes to, what its answer promises, and how it is shown.
pub mod Outcomes
pub mod Answers
pub mod Found
