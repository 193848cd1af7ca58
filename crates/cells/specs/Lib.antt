-- What the two kinds say of their cells and codes, and which cell of a list is the first that cannot be printed.
pub mod Glyphs
pub mod Days
pub mod Giving
pub mod Printing
