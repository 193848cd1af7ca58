-- Facts that the proofs of this crate share.
mod Beginnings
mod Writing
