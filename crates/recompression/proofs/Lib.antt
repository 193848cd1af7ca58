-- Facts on rows in slots, on lengths that are kept, on rounds in place and on leaves written out.
pub mod Fills
pub mod LengthFacts
pub mod BucketFacts
pub mod WalkFacts
pub mod DistinctFacts
pub mod SlotFacts
pub mod FileFacts
pub mod RoundFacts
pub mod SettleFacts
pub mod LeafFacts
pub mod ExpandFacts
pub mod CodeFacts
