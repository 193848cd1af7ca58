-- What a job says, does and prints.
pub mod Commands
pub mod Runs
pub mod Lines
pub mod Desks
