-- Facts on strips seen from either side, on cursors in them, and on the count of what agrees.
pub mod LengthFacts
pub mod SeenFacts
pub mod LeafFacts
pub mod CursorFacts
pub mod StepFacts
pub mod CountFacts
