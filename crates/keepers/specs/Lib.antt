-- What a keeper promises, how a layer comes to its answers, and the codes of a loose strip.
pub mod Shortness
pub mod Extensions
pub mod Sides
pub mod Layers
pub mod LooseStrip
