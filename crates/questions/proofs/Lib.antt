mod Checks
mod Tests
mod Writes
