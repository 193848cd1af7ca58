-- Facts that the proofs of this crate share.
mod Letters
mod Spelled
mod Turns
mod Law
