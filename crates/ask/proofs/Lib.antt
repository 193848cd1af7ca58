-- Lemmas on cutting a text into lines and words, on the numbers that words write, on records written one after
-- the other, and on the laws that answers and what is printed keep.
mod Pieces
mod Decimals
mod Records
mod Lawful
