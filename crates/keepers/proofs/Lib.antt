-- What the proofs of the keepers share.
pub mod Greatests
pub mod Chains
pub mod Layers
