pub mod CodeFacts
pub mod TurnFacts
pub mod RunFacts
pub mod CallFacts
